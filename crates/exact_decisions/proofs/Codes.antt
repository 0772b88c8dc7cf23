-- The coded bits of the symbols of a frame: each symbol has N_CBPS of them.
use Rattle.std.proofs.Common.{◌≡◌, ℕ, zero, suc, ◌+◌, ◌*◌, ◌<◌, ◌≤◌, List, length, take, drop, refl, arith}
use Rattle.std.proofs.Math.Nat.{mul-le-mul_right}
use Rattle.std.proofs.lemmas.List.{length-drop, length-take-le}
use Rattle.std.proofs.lemmas.List.Elements.{All-drop, All-take}
use Rattle.bit_lists.specs.Bits.{AreBits, IsBit}
use Rattle.conv_code.proofs.Coded.{AreBits-code_of, Codes-code_of}
use Rattle.rate_table.specs.declared.Rate.{Rate}
use Rattle.rate_table.specs.Symbols.{symbol_count}
use Rattle.rate_table.specs.Table.{row_of}
use Rattle.data_field.specs.Stages.{kept_at}
use Rattle.signal_field.specs.Signal.{header_bits_of}
use Rattle.signal_field.proofs.Signal.{length-header_bits_of}
use Rattle.symbol_builder.specs.Points.{points_of_code}
use Rattle.frame_fields.specs.Frames.{frame_points}
use Rattle.exact_decisions.specs.Sent.{code_of_symbol, rate_of_symbol}
use Rattle.frame_fields.proofs.Fields.{length-kept}
use Rattle.frame_fields.proofs.NearFrames.{AreBits-kept_at}

-- ---- symbol by symbol
group_long : (coded symbols m : ℕ) (kept : List ℕ) → length kept ≡ symbols * coded → m < symbols → length (take coded (drop (m * coded) kept)) ≡ coded
group_long coded symbols m kept whole below =
    let most : (m + 1) * coded ≤ symbols * coded = mul-le-mul_right {m = m + 1} {n = symbols} coded (omega arith) in
    length-take-le coded (drop (m * coded) kept) (omega (arith, most, length-drop (m * coded) kept))

pub code_long : (rate : Rate) (seed : ℕ) (psdu : List ℕ) (n : ℕ) → n ≤ symbol_count (row_of rate).field_bits (length psdu) → length (code_of_symbol rate seed psdu n) ≡ (row_of (rate_of_symbol rate n)).coded_bits
code_long rate seed psdu zero sent =
    let bits = header_bits_of rate (length psdu) 0 in
    omega (arith, (Codes-code_of bits).twice, length-header_bits_of rate (length psdu) 0)
code_long rate seed psdu (suc m) sent =
    group_long (row_of rate).coded_bits (symbol_count (row_of rate).field_bits (length psdu)) m (kept_at rate seed psdu) (length-kept rate seed psdu) (omega arith)

pub code_bits : (rate : Rate) (seed : ℕ) (psdu : List ℕ) (n : ℕ) → AreBits (code_of_symbol rate seed psdu n)
code_bits rate seed psdu zero = AreBits-code_of (header_bits_of rate (length psdu) 0)
code_bits rate seed psdu (suc m) =
    All-take IsBit (row_of rate).coded_bits (drop (m * (row_of rate).coded_bits) (kept_at rate seed psdu))
    (All-drop IsBit (m * (row_of rate).coded_bits) (kept_at rate seed psdu) (AreBits-kept_at rate seed psdu))

-- the points of a frame's symbols are those of these bits
pub same_points : (rate : Rate) (seed : ℕ) (psdu : List ℕ) (n : ℕ) → frame_points rate seed psdu n ≡ points_of_code (rate_of_symbol rate n) (code_of_symbol rate seed psdu n)
same_points rate seed psdu zero = refl
same_points rate seed psdu (suc m) = refl
