-- How near sent samples and received carriers are to the plain sums.
use Rattle.std.proofs.Common.{◌≡◌, ℕ, ◌+◌, ◌*◌, ◌^◌, ◌<◌, ◌≤◌, refl, sym, ◌∙◌, arith}
use Rattle.std.specs.Prelude.{ℤ, pos, ◌+ℤ◌, ◌-ℤ◌, ◌*ℤ◌, unsigned_abs}
use Rattle.std.proofs.lemmas.Int.{ints}
use Rattle.std.proofs.lemmas.Bool.{leb-true}
use Rattle.fixed_complex.specs.declared.Cx.{Cx}
use Rattle.fixed_complex.specs.Pairs.{IsWithin, IsOfSize, minus, multiple, conjugate, times, rounded_pair}
use Rattle.fixed_complex.specs.Rounding.{half_up}
use Rattle.fixed_complex.specs.Turns.{turn_at}
use Rattle.integer_laws.proofs.FloorDivision.{rounding_within}
use Rattle.integer_laws.proofs.Ring.{ring, ◌⊕◌, ◌⊖◌, ◌⊗◌, ◌≗◌}
use Rattle.integer_laws.proofs.Sizes.{size_of_parts, size_of_near, size_of_rounding, size_of_unscaled}
use Rattle.butterfly64.specs.Budgets.{budget_of, down_budget_of}
use Rattle.butterfly64.specs.PlainSums.{plain_up, plain_down}
use Rattle.fixed_complex.specs.PairLists.{by_256}
use Rattle.butterfly64.specs.StagedSums.{up_at, down_at}
use Rattle.fixed_complex.proofs.PairSizes.{size-multiple, wider, within-size}
use Rattle.butterfly64.proofs.StagedSizes.{grown_by, size-down_at, six_joins}
use Rattle.fixed_complex.proofs.Pairs.{same_parts}
use Rattle.fixed_complex.proofs.Sums.{same_sums, multiple_sum}
use Rattle.butterfly64.proofs.UpBudget.{near_up_sums}
use Rattle.butterfly64.proofs.DownBudget.{near_down_sums}

-- a multiple in a product
multiple_times : (c : ℤ) (x t : Cx) → times (multiple c x) t ≡ multiple c (times x t)
unfolding times
multiple_times c x t = same_parts _ _ (re c x.re x.im t.re t.im) (im c x.re x.im t.re t.im)
  where
    re : (c x y t u : ℤ) → (c *ℤ x) *ℤ t -ℤ (c *ℤ y) *ℤ u ≡ c *ℤ (x *ℤ t -ℤ y *ℤ u)
    re = ring 5 (λ c x y t u. (c ⊗ x) ⊗ t ⊖ (c ⊗ y) ⊗ u ≗ c ⊗ (x ⊗ t ⊖ y ⊗ u)) refl

    im : (c x y t u : ℤ) → (c *ℤ x) *ℤ u +ℤ (c *ℤ y) *ℤ t ≡ c *ℤ (x *ℤ u +ℤ y *ℤ t)
    im = ring 5 (λ c x y t u. (c ⊗ x) ⊗ u ⊕ (c ⊗ y) ⊗ t ≗ c ⊗ (x ⊗ u ⊕ y ⊗ t)) refl

-- plain sums of what is taken 256 times
plain_up_by_256 : (x : ℕ → Cx) (n : ℕ) → plain_up (by_256 x) n ≡ multiple (pos 256) (plain_up x n)
plain_up_by_256 x n =
    same_sums _ _ (λ c. multiple_times (pos 256) (x c) (turn_at (c * n))) 64
    ∙ sym (multiple_sum (pos 256) 64 (λ c. times (x c) (turn_at (c * n))))

plain_down_by_256 : (r : ℕ → Cx) (c : ℕ) → plain_down (by_256 r) c ≡ multiple (pos 256) (plain_down r c)
plain_down_by_256 r c =
    same_sums _ _ (λ n. multiple_times (pos 256) (r n) (conjugate (turn_at (c * n)))) 64
    ∙ sym (multiple_sum (pos 256) 64 (λ n. times (r n) (conjugate (turn_at (c * n)))))

-- ---- one component
-- over 512, where the sum is near 256 times the plain one
sent_part : (q v w : ℤ) → unsigned_abs (pos 512 *ℤ q -ℤ v) ≤ 256 → unsigned_abs (pos 1048576 *ℤ v -ℤ pos 256 *ℤ w) ≤ 2 ^ 28 → unsigned_abs (pos 2097152 *ℤ q -ℤ w) ≤ 2 ^ 21
sent_part q v w rounded near = omega (arith, ints, rounded, near)

-- over 256
received_part : (q v f : ℤ) → unsigned_abs (pos 256 *ℤ q -ℤ v) ≤ 128 → unsigned_abs (pos 1048576 *ℤ v -ℤ pos 256 *ℤ f) ≤ 39 * 2 ^ 28 → unsigned_abs (pos 1048576 *ℤ q -ℤ f) ≤ 40 * 2 ^ 20
received_part q v f rounded near = omega (arith, ints, rounded, near)

-- samples of 16 bits, times 256
samples_size : (r : ℕ → Cx) → ((n : ℕ) → IsWithin 32768 (r n)) → (n : ℕ) → IsOfSize 11863296 (by_256 r n)
samples_size r within n = size-multiple 256 46341 (r n) (record { size = size_of_parts (r n).re (r n).im 32768 32768 46341 (within n).re (within n).im (omega arith) })

-- a received carrier is at most 2^22 in size
pub size_received : (r : ℕ → Cx) → ((n : ℕ) → IsWithin 32768 (r n)) → (c : ℕ) → c < 64 → IsOfSize (2 ^ 22) (rounded_pair 8 (down_at 6 (by_256 r) c))
size_received r within c lt =
    let sum = down_at 6 (by_256 r) c in
    let most = 65 * 11863296 + 256 in
    let sum_size : IsOfSize most sum = wider (grown_by 6 11863296) most sum (six_joins 11863296 (omega arith)) (size-down_at 6 11863296 (by_256 r) (samples_size r within) c) in
    let back = rounded_pair 8 sum in
    let whole : IsOfSize (256 + most) (multiple (pos 256) back) =
    record { size = size_of_near (pos 256 *ℤ back.re) (pos 256 *ℤ back.im) sum.re sum.im 256 most (size_of_rounding sum.re sum.im 128 256 (omega arith) (omega arith)) sum_size.size } in
    record { size = size_of_unscaled 256 back.re back.im (2 ^ 22) (omega arith) (wider (256 + most) (256 * 2 ^ 22) (multiple (pos 256) back) (omega arith) whole).size }

-- a sent sample is within 1 of half the sum of carriers
pub near_sent : (x : ℕ → Cx) → ((c : ℕ) → IsWithin 954 (x c)) → (n : ℕ) → n < 64 → IsWithin (2 ^ 21) (minus (multiple (pos 2097152) (rounded_pair 9 (up_at 6 (by_256 x) n))) (plain_up x n))
near_sent x within n lt =
    let size = λ (c : ℕ). size-multiple 256 1350 (x c) (record { size = size_of_parts (x c).re (x c).im 954 954 1350 (within c).re (within c).im (omega arith) }) in
    let sum = up_at 6 (by_256 x) n in
    let near = rw (plain_up_by_256 x n) at (near_up_sums 345600 (by_256 x) size n lt) in
    let parts = within-size (budget_of 6 345600) _ near in
    let enough : budget_of 6 345600 ≤ 2 ^ 28 = leb-true (budget_of 6 345600) (2 ^ 28) refl in
    record {
      re = sent_part (half_up 9 sum.re) sum.re (plain_up x n).re (rounding_within sum.re 256 (omega arith)) (omega (arith, parts.re, enough));
      im = sent_part (half_up 9 sum.im) sum.im (plain_up x n).im (rounding_within sum.im 256 (omega arith)) (omega (arith, parts.im, enough));
    }

-- a received carrier is within 40 of the plain sum over 2^20
pub near_received : (r : ℕ → Cx) → ((n : ℕ) → IsWithin 32768 (r n)) → (c : ℕ) → c < 64 → IsWithin (40 * 2 ^ 20) (minus (multiple (pos 1048576) (rounded_pair 8 (down_at 6 (by_256 r) c))) (plain_down r c))
near_received r within c lt =
    let size = λ (n : ℕ). size-multiple 256 46341 (r n) (record { size = size_of_parts (r n).re (r n).im 32768 32768 46341 (within n).re (within n).im (omega arith) }) in
    let sum = down_at 6 (by_256 r) c in
    let near = rw (plain_down_by_256 r c) at (near_down_sums 11863296 (by_256 r) size c lt) in
    let parts = within-size (down_budget_of 6 11863296) _ near in
    let enough : down_budget_of 6 11863296 ≤ 39 * 2 ^ 28 = leb-true (down_budget_of 6 11863296) (39 * 2 ^ 28) refl in
    record {
      re = received_part (half_up 8 sum.re) sum.re (plain_down r c).re (rounding_within sum.re 128 (omega arith)) (omega (arith, parts.re, enough));
      im = received_part (half_up 8 sum.im) sum.im (plain_down r c).im (rounding_within sum.im 128 (omega arith)) (omega (arith, parts.im, enough));
    }
