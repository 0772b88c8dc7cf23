-- What the laws of headers state.
use Rattle.std.specs.Prelude.{◌≡◌, ℕ, List, Result, Ok}
use Rattle.bit_lists.specs.Bits.{IsBit}
use Rattle.rate_table.specs.declared.Rate.{Rate}
use Rattle.rate_table.specs.Symbols.{IsLength}
use Rattle.signal_field.specs.declared.Header.{Header}
use Rattle.signal_field.specs.declared.HeaderFault.{HeaderFault}
use Rattle.signal_field.specs.Headers.{IsReadAs, header_in}
use Rattle.signal_field.specs.Signal.{header_bits_of}

-- decisions are read as something
abbrev pub SomeReading : Type 0
SomeReading = (decisions : List ℕ) → (read : Result Header HeaderFault) × IsReadAs decisions read

-- and as nothing else
abbrev pub OneReading : Type 0
OneReading =
    (decisions : List ℕ) (x y : Result Header HeaderFault) → IsReadAs decisions x
    → IsReadAs decisions y → x ≡ y

-- the bits of a header say it
abbrev pub BitsSayHeader : Type 0
BitsSayHeader =
    (rate : Rate) (length reserved : ℕ) → IsLength length → IsBit reserved
    → header_in (header_bits_of rate length reserved)
    ≡ Ok (record { rate = rate; length = length; reserved = reserved })
