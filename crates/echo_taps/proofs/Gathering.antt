-- The sums of an echo, delay by delay.
use Rattle.std.proofs.Common.{◌≡◌, ◌+◌, ℕ, ℤ, List, [], ◌∷◌, ◌++◌, map, refl, ap, ◌∙◌, sym, arith}
use Rattle.std.proofs.lemmas.List.FromFn.{map-range_with_len_more}
use Rattle.std.specs.List.{range_with_len}
use Rattle.fixed_complex.specs.declared.Cx.{Cx}
use Rattle.fixed_complex.specs.declared.Sample.{Sample}
use Rattle.fixed_complex.specs.Rounding.{half_up}
use Rattle.lane_kernels.specs.Kernels.{held}
use Rattle.fixed_complex.specs.Samples.{pair_at}
use Rattle.echo_taps.specs.Echoes.{gathered, held_sample}

-- the held sample of a sum, from its components
pub sample_is : (sum other : Cx) (i q : ℤ) → i ≡ held (half_up 10 sum.re) → q ≡ held (half_up 10 sum.im) → sum ≡ other → record { i = i; q = q } ≡ held_sample other
sample_is sum other i q is_i is_q same = rw (is_i, is_q, same) refl

-- one sample more
pub next_sample : (pairs : List Cx) (samples before after : List Sample) (place : ℕ) (sample : Sample) → before ≡ map (λ place. held_sample (gathered pairs (pair_at samples) place)) (range_with_len 0 place)
    → sample ≡ held_sample (gathered pairs (pair_at samples) place) → after ≡ before ++ sample ∷ [] → after ≡ map (λ place. held_sample (gathered pairs (pair_at samples) place)) (range_with_len 0 (place + 1))
next_sample pairs samples before after place sample so_far is pushed =
    pushed ∙ ap (λ s. before ++ s ∷ []) is ∙ ap (λ list. list ++ held_sample (gathered pairs (pair_at samples) place) ∷ []) so_far
    ∙ sym (map-range_with_len_more (λ place. held_sample (gathered pairs (pair_at samples) place)) 0 place place (omega arith))
