-- Captures: samples as bytes (own).
use Rattle.std.specs.Prelude.{ℕ, ◌+◌, ◌*◌, ◌%◌, ◌≢◌, List, [], ◌∷◌, ◌++◌, ℤ}
use Rattle.std.specs.Int.{w16, bytes_low_first, cast_signed, cast_unsigned}
use Rattle.std.specs.List.{flat_map}
use Rattle.fixed_complex.specs.declared.Sample.{Sample}

-- the two bytes of a component: 16 bits in two's complement, the low byte first
unfoldable pub bytes_of_component : ℤ → List ℕ
bytes_of_component component = bytes_low_first 0 2 (cast_unsigned w16 component)

-- the four bytes of a sample: those of I, and then those of Q
unfoldable pub bytes_of_sample : Sample → List ℕ
bytes_of_sample sample = bytes_of_component sample.i ++ bytes_of_component sample.q

-- the bytes of samples: four a sample, in order
abbrev pub bytes_of_samples : List Sample → List ℕ
bytes_of_samples samples = flat_map bytes_of_sample samples

-- the component that two bytes are
unfoldable pub component_in : ℕ → ℕ → ℤ
component_in low high = cast_signed w16 (low + 256 * high)

-- the samples that bytes are, as far as they are whole samples
unfoldable pub samples_in : List ℕ → List Sample
samples_in (a ∷ b ∷ c ∷ d ∷ bytes) =
    record { i = component_in a b; q = component_in c d } ∷ samples_in bytes
samples_in bytes = []

-- a capture that ends after so many bytes is torn: they aren't whole samples
abbrev pub IsTorn : ℕ → Type 0
IsTorn bytes = bytes % 4 ≢ 0
