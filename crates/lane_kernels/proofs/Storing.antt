-- Samples stored place by place.
use Rattle.std.proofs.Common.{◌≡◌, inl, inr, ◌≢◌, ℕ, ◌+◌, ◌*◌, ◌<◌, ◌≤◌, List, length, set, ℤ, pos, negsuc, ◌+ℤ◌, to_z, of_z, refl, sym, ap, ◌∙◌, arith, get_or-set_other, get_or-set_same}
use Rattle.std.proofs.lemmas.Bool.{cases_lt}
use Rattle.std.specs.Prelude.{FitsSigned}
use Rattle.std.specs.Int.{saturate_signed}
use Rattle.std.proofs.lemmas.Int.{ints, clamps, to_z-of_z}
use Rattle.std.proofs.lemmas.List.{ext_get_or}
use Rattle.fixed_complex.specs.declared.Sample.{Sample}
use Rattle.lane_kernels.specs.Kernels.{held, held_sum, held_sums}
use Rattle.lane_kernels.specs.Lanes.{HoldsSums, components_of, eight}
use Rattle.fixed_complex.specs.Numbers.{number_at}
use Rattle.fixed_complex.specs.Samples.{sample_at}
use Rattle.lane_kernels.proofs.HeldSums.{held_sums-at, length-held_sums}
use Rattle.lane_kernels.proofs.Holding.{held-fits}
use Rattle.integer_laws.proofs.FewPlaces.{at_four}
use Rattle.lane_kernels.proofs.Totals.{eight-at}
use mir.Syntax.{w16}

-- one place more
pub sums-more : (from upto next : ℕ) (old b new : List Sample) (value : Sample) → next ≡ upto + 1 → from ≤ upto → upto < length new → value ≡ held_sum (sample_at old upto) (sample_at b upto) → HoldsSums from upto old b new → HoldsSums from next old b (set new upto value)
sums-more from upto next old b new value e least room is h =
    let other = λ (n : ℕ) (apart : n ≢ upto). get_or-set_other new upto n value (record { i = pos 0; q = pos 0 }) apart in
    record {
      before = λ n below. let apart : n ≢ upto = omega arith in other n apart ∙ h.before n below;
      within = λ n from_n below.
          elim (cases_lt n upto) [
            | inl here ↦ let apart : n ≢ upto = omega arith in other n apart ∙ h.within n from_n here
            | inr there ↦ let at : n ≡ upto = omega arith in rw at (get_or-set_same new upto value (record { i = pos 0; q = pos 0 }) room ∙ is)
          ];
      behind = λ n past. let apart : n ≢ upto = omega arith in other n apart ∙ h.behind n (omega arith);
    }

-- a stretch behind another
pub sums-join : (from mid upto : ℕ) (old b half new : List Sample) → from ≤ mid → mid ≤ upto → HoldsSums from mid old b half → HoldsSums mid upto half b new → HoldsSums from upto old b new
sums-join from mid upto old b half new low high first second = record {
  before = λ n below. second.before n (omega arith) ∙ first.before n below;
  within = λ n least below.
      elim (cases_lt n mid) [
        | inl here ↦ second.before n here ∙ first.within n least here
        | inr there ↦ second.within n there below ∙ ap (λ s. held_sum s (sample_at b n)) (first.behind n there)
      ];
  behind = λ n past. second.behind n past ∙ first.behind n (omega arith);
}

-- a held sum's components in their lanes
abbrev held_lanes : List ℤ → List ℤ → ℕ → ℤ
held_lanes x y n = held (number_at x n +ℤ number_at y n)

lane-held : (x y new : List ℤ) (m : ℕ) (a b : ℤ) → new ≡ eight (held_lanes x y) → m < 8 → number_at x m ≡ a → number_at y m ≡ b → to_z w16 (of_z w16 (number_at new m)) ≡ held (a +ℤ b)
lane-held x y new m a b is below x_at y_at =
    let here : number_at new m ≡ held (a +ℤ b) =
    ap (λ l. number_at l m) is ∙ (eight-at (held_lanes x y) m below ∙ (ap (λ z. held (z +ℤ number_at y m)) x_at ∙ ap (λ z. held (a +ℤ z)) y_at)) in
    rw here (to_z-of_z w16 (held (a +ℤ b)) (held-fits (a +ℤ b)))

i-at : (f : ℕ → Sample) (n : ℕ) → n < 4 → number_at (components_of f) (2 * n) ≡ (f n).i
i-at f = at_four (λ n. number_at (components_of f) (2 * n) ≡ (f n).i) refl refl refl refl

q-at : (f : ℕ → Sample) (n : ℕ) → n < 4 → number_at (components_of f) (2 * n + 1) ≡ (f n).q
q-at f = at_four (λ n. number_at (components_of f) (2 * n + 1) ≡ (f n).q) refl refl refl refl

pub sample-held : (x y new : List ℤ) (f g : ℕ → Sample) → x ≡ components_of f → y ≡ components_of g → new ≡ eight (λ n. held (number_at x n +ℤ number_at y n)) → (n : ℕ) → n < 4
    → (to_z w16 (of_z w16 (number_at new (2 * n))) ≡ held ((f n).i +ℤ (g n).i)) × (to_z w16 (of_z w16 (number_at new (2 * n + 1))) ≡ held ((f n).q +ℤ (g n).q))
sample-held x y new f g x_is y_is is n below = (
  lane-held x y new (2 * n) (f n).i (g n).i is (omega arith) (ap (λ l. number_at l (2 * n)) x_is ∙ i-at f n below) (ap (λ l. number_at l (2 * n)) y_is ∙ i-at g n below),
  lane-held x y new (2 * n + 1) (f n).q (g n).q is (omega arith) (ap (λ l. number_at l (2 * n + 1)) x_is ∙ q-at f n below) (ap (λ l. number_at l (2 * n + 1)) y_is ∙ q-at g n below),
)

-- std's saturation holds a number
pub saturated : (v : ℤ) → saturate_signed w16 v ≡ held v
saturated (pos n) = omega (arith, ints, clamps)
saturated (negsuc n) = omega (arith, ints, clamps)

pub saturated_sum : (r a b : ℤ) → FitsSigned w16 a → FitsSigned w16 b → r ≡ saturate_signed w16 (to_z w16 (of_z w16 a) +ℤ to_z w16 (of_z w16 b)) → to_z w16 (of_z w16 r) ≡ held (a +ℤ b)
saturated_sum r a b a_fits b_fits is =
    let here : r ≡ held (a +ℤ b) = rw (to_z-of_z w16 a a_fits, to_z-of_z w16 b b_fits, saturated (a +ℤ b)) at is in
    rw here (to_z-of_z w16 (held (a +ℤ b)) (held-fits (a +ℤ b)))

-- the whole list
pub sums-whole : (old b new : List Sample) (upto : ℕ) → upto ≡ length old → length old ≡ length b → length new ≡ length old → HoldsSums 0 upto old b new → new ≡ held_sums old b
sums-whole old b new upto e h len sums =
    ext_get_or (record { i = pos 0; q = pos 0 }) new (held_sums old b) (omega (arith, length-held_sums old b h))
    (λ n below. sums.within n (omega arith) (omega arith) ∙ sym (held_sums-at old b n h (omega arith)))
