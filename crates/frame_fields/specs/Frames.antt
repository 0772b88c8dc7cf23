-- A frame: its points, its samples and its bytes (IEEE Std 802.11-2012, 18.3.2.1, 18.3.2.5 and 18.3.4).
use Rattle.std.specs.Prelude.{ℕ, ◌+◌, zero, suc, List, ◌++◌, length}
use Rattle.std.specs.List.{flat_map, range_with_len}
use Rattle.fixed_complex.specs.declared.Cx.{Cx}
use Rattle.fixed_complex.specs.declared.Sample.{Sample}
use Rattle.conv_code.specs.Code.{code_of}
use Rattle.rate_table.specs.declared.Rate.{Rate}
use Rattle.rate_table.specs.declared.Rate.TheVariants.{R6}
use Rattle.rate_table.specs.Symbols.{symbol_count}
use Rattle.rate_table.specs.Table.{row_of}
use Rattle.capture_files.specs.Captures.{bytes_of_samples}
use Rattle.signal_field.specs.Signal.{header_bits_of}
use Rattle.symbol_builder.specs.Carriers.{symbol_bin, symbol_times}
use Rattle.symbol_builder.specs.Points.{data_points, points_of_code}
use Rattle.plain_waves.specs.Bodies.{plain_body, sent_body}
use Rattle.training_fields.specs.Training.{preamble_of}

-- the code of SIGNAL, for a PSDU of so many octets: that of its 24 bits, of which the reserved one is 0
abbrev pub signal_code : Rate → ℕ → List ℕ
signal_code rate octets = code_of (header_bits_of rate octets 0)

-- the points of symbol n of a frame: symbol 0 is SIGNAL, sent as at 6 Mb/s, and symbol m + 1 is DATA symbol m
abbrev pub frame_points : Rate → ℕ → List ℕ → ℕ → List Cx
frame_points rate seed psdu zero = points_of_code R6 (signal_code rate (length psdu))
frame_points rate seed psdu (suc m) = data_points rate seed psdu m

-- what stands in a bin of symbol n
abbrev pub frame_bin : Rate → ℕ → List ℕ → ℕ → ℕ → Cx
frame_bin rate seed psdu n = symbol_bin (frame_points rate seed psdu n) n

-- the 80 entries of symbol n; `body` makes 64 samples, or 64 plain pairs, of what the bins carry
abbrev pub frame_symbol : {A : Type 0} → ((ℕ → Cx) → ℕ → A) → Rate → ℕ → List ℕ → ℕ → List A
frame_symbol body rate seed psdu n = symbol_times (body (frame_bin rate seed psdu n))

-- a frame: the preamble, and then SIGNAL and all DATA symbols
unfoldable pub frame_of : {A : Type 0} → ((ℕ → Cx) → ℕ → A) → Rate → ℕ → List ℕ → List A
frame_of body rate seed psdu =
    preamble_of body
    ++ flat_map (frame_symbol body rate seed psdu) (range_with_len 0 (symbol_count (row_of rate).field_bits (length psdu) + 1))

-- the sent samples, which are made of staged sums (own)
abbrev pub sent_frame : Rate → ℕ → List ℕ → List Sample
sent_frame rate seed psdu = frame_of sent_body rate seed psdu

-- the plain waveform; its scale is own: 2^21 times real samples
abbrev pub plain_frame : Rate → ℕ → List ℕ → List Cx
plain_frame rate seed psdu = frame_of plain_body rate seed psdu

-- the sent bytes, four a sample (own)
abbrev pub sent_bytes : Rate → ℕ → List ℕ → List ℕ
sent_bytes rate seed psdu = bytes_of_samples (sent_frame rate seed psdu)
