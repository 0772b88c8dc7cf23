-- The tables of the branches.
use Rattle.std.proofs.Common.{◌≡◌, ℕ, zero, suc, ◌+◌, ◌-◌, ◌*◌, ◌/◌, ◌%◌, ◌<◌, ◌≤◌, Bool, true, false, eqb, min, get_or, refl, ◌∙◌, ◌==◌, if◌then◌else◌, arith}
use Rattle.std.proofs.lemmas.Bool.{agree_below_at, eqb-true}
use Rattle.conv_code.specs.Code.{earlier, parity_a, parity_b}
use Rattle.conv_code.specs.States.{branch_a, branch_b}
use Rattle.survivor_memory.specs.declared.lanes.TheConstants.{A_FROM_LOWER, B_FROM_LOWER}
use Rattle.survivor_memory.specs.declared.PairCosts.{PairCosts}
use Rattle.survivor_memory.specs.Costs.{both_costs, most_cost, price, IsLight}
use Rattle.survivor_memory.proofs.Sums.{price_le}

-- A and B from the lower predecessor
pub a_from_lower : (s : ℕ) → s < 64 → get_or A_FROM_LOWER s 0 ≡ branch_a (s / 2) (s % 2)
unfolding parity_a earlier
a_from_lower s h = eqb-true _ _ (agree_below_at (λ s. eqb (get_or A_FROM_LOWER s 0) (branch_a (s / 2) (s % 2))) (λ _. true) 64 s refl h)

pub b_from_lower : (s : ℕ) → s < 64 → get_or B_FROM_LOWER s 0 ≡ branch_b (s / 2) (s % 2)
unfolding parity_b earlier
b_from_lower s h = eqb-true _ _ (agree_below_at (λ s. eqb (get_or B_FROM_LOWER s 0) (branch_b (s / 2) (s % 2))) (λ _. true) 64 s refl h)

-- and from the higher one
pub a_from_higher : (s : ℕ) → s < 64 → 1 - get_or A_FROM_LOWER s 0 ≡ branch_a (s / 2 + 32) (s % 2)
unfolding parity_a earlier
a_from_higher s h = eqb-true _ _ (agree_below_at (λ s. eqb (1 - get_or A_FROM_LOWER s 0) (branch_a (s / 2 + 32) (s % 2))) (λ _. true) 64 s refl h)

pub b_from_higher : (s : ℕ) → s < 64 → 1 - get_or B_FROM_LOWER s 0 ≡ branch_b (s / 2 + 32) (s % 2)
unfolding parity_b earlier
b_from_higher s h = eqb-true _ _ (agree_below_at (λ s. eqb (1 - get_or B_FROM_LOWER s 0) (branch_b (s / 2 + 32) (s % 2))) (λ _. true) 64 s refl h)

-- what a branch costs is a sum of two bytes that fits a byte
pub price_from_lower : (pair : PairCosts) (a b x y : ℕ) → IsLight pair → x ≡ (if a == 0 then pair.first_zero else pair.first_one) → y ≡ (if b == 0 then pair.second_zero else pair.second_one) → (x + y) % 256 ≡ price pair a b
unfolding price
price_from_lower pair a b x y light first second =
    let small = price_le pair a b in
    rw (first, second) (omega arith)

-- with both bits turned
pub price_from_higher : (pair : PairCosts) (a b x y : ℕ) → IsLight pair → a < 2 → b < 2 → x ≡ (if a == 0 then pair.first_one else pair.first_zero) → y ≡ (if b == 0 then pair.second_one else pair.second_zero) → (x + y) % 256 ≡ price pair (1 - a) (1 - b)
price_from_higher pair a b x y light bit_a bit_b first second =
    price_from_lower pair (1 - a) (1 - b) x y light
    (first ∙ turned a pair.first_one pair.first_zero bit_a)
    (second ∙ turned b pair.second_one pair.second_zero bit_b)
  where
    turned : (a p q : ℕ) → a < 2 → (if a == 0 then p else q) ≡ (if 1 - a == 0 then q else p)
    turned zero p q h = refl
    turned (suc zero) p q h = refl
    turned (suc (suc a)) p q h = absurd (omega arith)

-- the entries of the tables are bits
pub IsBit-a_from_lower : (s : ℕ) → s < 64 → get_or A_FROM_LOWER s 0 < 2
unfolding parity_a
IsBit-a_from_lower s h = omega (arith, a_from_lower s h)

pub IsBit-b_from_lower : (s : ℕ) → s < 64 → get_or B_FROM_LOWER s 0 < 2
unfolding parity_b
IsBit-b_from_lower s h = omega (arith, b_from_lower s h)

-- a sum of either of two numbers
either_sum : (first : Bool) (p q x y : ℕ) → (if first then p + x else q + y) ≡ (if first then p else q) + (if first then x else y)
either_sum true p q x y = refl
either_sum false p q x y = refl

-- two pairs cost together what each costs
price-both : (pair other : PairCosts) (a b : ℕ) → price (both_costs pair other) a b ≡ price pair a b + price other a b
unfolding price
price-both pair other a b =
    omega (arith, either_sum (a == 0) pair.first_zero pair.first_one other.first_zero other.first_one, either_sum (b == 0) pair.second_zero pair.second_one other.second_zero other.second_one)

-- a sum that is held at 255 of what two pairs cost at the bits a and b
pub sum_of_two : (pair other : PairCosts) (a b x y sum most : ℕ) → 7 * most < 255 → most_cost (both_costs pair other) ≤ most → x ≡ price pair a b → y ≡ price other a b → sum ≡ min 255 (x + y) → sum ≡ price (both_costs pair other) a b
sum_of_two pair other a b x y sum most few light first second is =
    omega (arith, price_le (both_costs pair other) a b, price-both pair other a b)
