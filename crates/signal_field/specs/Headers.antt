-- The header that bits say, and the one that decisions are read as. The fields are those of IEEE Std
-- 802.11-2012, 18.3.4; the faults, their order and the reading of decisions are own.
use Rattle.std.specs.Prelude.{◌≡◌, ℕ, ◌*◌, ◌^◌, ◌==◌, List, length, take, drop, find, slice_index, Option, Some, None, Result, Ok, Err, if◌then◌else◌}
use Rattle.std.specs.List.{range_with_len, sum_by}
use Rattle.rate_table.specs.declared.CodeRate.TheVariants.{Half}
use Rattle.rate_table.specs.declared.Rate.{Rate}
use Rattle.rate_table.specs.Table.{rates, row_of}
use Rattle.viterbi_lanes.specs.Decisions.{marks_of}
use Rattle.viterbi_lanes.specs.Marks.{IsNearestTo}
use Rattle.signal_field.specs.declared.Header.{Header}
use Rattle.signal_field.specs.declared.HeaderFault.{HeaderFault}
use Rattle.signal_field.specs.declared.HeaderFault.TheVariants.{BadParity, BadRate, ZeroLength}
use Rattle.signal_field.specs.Signal.{even_parity}

-- the number of bits, the least significant first
unfoldable pub number_of_bits : List ℕ → ℕ
number_of_bits bits =
    sum_by (λ k. 2 ^ k * slice_index bits k) (range_with_len 0 (length bits))

-- the rate whose RATE pattern has this number, if there is one
abbrev pub rate_of_pattern : ℕ → Option Rate
rate_of_pattern pattern = find (λ rate. (row_of rate).pattern == pattern) rates

-- the header of a pattern's rate, LENGTH and the reserved bit: where the pattern names no rate, that
-- is its fault; then LENGTH 0 is
abbrev pub header_of : ℕ → Option Rate → ℕ → ℕ → Result Header HeaderFault
header_of pattern None length reserved = Err (BadRate pattern)
header_of pattern (Some rate) length reserved =
    if length == 0 then Err ZeroLength
    else Ok (record { rate = rate; length = length; reserved = reserved })

-- the header that 24 bits say: where the sum of bits 0 to 17 is odd, that is the fault; else R1 to R4,
-- LENGTH in bits 5 to 16, the least significant first, and the reserved bit 4 say it
unfoldable pub header_in : List ℕ → Result Header HeaderFault
header_in bits =
    let pattern = number_of_bits (take 4 bits) in
    if even_parity (take 18 bits) == 1 then Err BadParity
    else header_of pattern (rate_of_pattern pattern) (number_of_bits (take 12 (drop 5 bits))) (slice_index bits 4)

-- 48 decisions, in code order, are read as what the nearest list of 24 bits says
pub record IsReadAs (decisions : List ℕ) (read : Result Header HeaderFault) : Type 0 where
  pub bits : List ℕ
  pub least : ℕ
  pub nearest : IsNearestTo (marks_of Half decisions 24) bits least
  pub says : header_in bits ≡ read
