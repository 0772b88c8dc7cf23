-- What the laws of headers and fields by decisions state (own).
use Rattle.std.specs.Prelude.{◌≡◌, ℕ, List, Result}
use Rattle.rate_table.specs.declared.Rate.{Rate}
use Rattle.signal_field.specs.declared.Header.{Header}
use Rattle.signal_field.specs.declared.HeaderFault.{HeaderFault}
use Rattle.frame_reader.specs.Frames.{HasField, SaysHeader}

-- decisions say a header, or a fault
abbrev pub SomeHeader : Type 0
SomeHeader = (decisions : Rate → ℕ → List ℕ) → (read : Result Header HeaderFault) × SaysHeader decisions read

-- and nothing else
abbrev pub OneHeader : Type 0
OneHeader =
    (decisions : Rate → ℕ → List ℕ) (x y : Result Header HeaderFault) → SaysHeader decisions x → SaysHeader decisions y
    → x ≡ y

-- a header has a field
abbrev pub SomeFieldOfHeader : Type 0
SomeFieldOfHeader =
    (decisions : Rate → ℕ → List ℕ) (header : Header)
    → (number : ℕ) × ((psdu : List ℕ) × HasField decisions header number psdu)

-- and only one
abbrev pub OneFieldOfHeader : Type 0
OneFieldOfHeader =
    (decisions : Rate → ℕ → List ℕ) (header : Header) (m n : ℕ) (psdu other : List ℕ)
    → HasField decisions header m psdu → HasField decisions header n other → (m ≡ n) × (psdu ≡ other)
