-- The match of samples with the training fields (own).
use Rattle.std.specs.Prelude.{ℕ, List, take, drop, Bool, pos, ◌*ℤ◌, int_le}
use Rattle.integer_laws.specs.Size.{sum_of_squares}
use Rattle.fixed_complex.specs.declared.Sample.{Sample}
use Rattle.lane_kernels.specs.Kernels.{dot_of, energy_of}
use Rattle.training_fields.specs.Training.{template_of}

-- so many items of a list, from a place on
abbrev pub part : {A : Type 0} → List A → ℕ → ℕ → List A
part items from size = take size (drop from items)

-- 320 samples match where 5 |c|^2 is at least 4 E e: c is the sum of their products with the conjugates of the
-- template's samples, E the energy of the template, and e theirs
unfoldable pub matches : List Sample → Bool
matches samples =
    let c = dot_of samples template_of in
    int_le (pos 4 *ℤ energy_of template_of *ℤ energy_of samples) (pos 5 *ℤ sum_of_squares c.re c.im)
