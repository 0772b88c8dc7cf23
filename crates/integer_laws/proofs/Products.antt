-- The laws of products of whole numbers that std lacks.
use Rattle.std.proofs.Common.{◌≡◌, ◌+◌, ◌*◌, ap, ◌∙◌, arith}
use Rattle.std.specs.Prelude.{ℤ, pos, negsuc, ◌+ℤ◌, ◌-ℤ◌, ◌*ℤ◌, neg_ℤ}
use Rattle.std.proofs.Math.IntN.{*ℤ_comm}
use borrow.Author.Differences.{up, down, sum_is_lem, neg_is, product_is, same_in}

-- the two parts of a product
up_product : (a b : ℤ) → up (a *ℤ b) ≡ up a * up b + down a * down b
up_product a b = (product_is a b).0

down_product : (a b : ℤ) → down (a *ℤ b) ≡ up a * down b + down a * up b
down_product a b = (product_is a b).1

-- the two parts of a negation
up_neg : (a : ℤ) → up (neg_ℤ a) ≡ down a
up_neg a = (neg_is a).0

down_neg : (a : ℤ) → down (neg_ℤ a) ≡ up a
down_neg a = (neg_is a).1

-- a product of three
pub *ℤ_assoc : (a b c : ℤ) → (a *ℤ b) *ℤ c ≡ a *ℤ (b *ℤ c)
*ℤ_assoc a b c = same_in ((a *ℤ b) *ℤ c) (a *ℤ (b *ℤ c)) (simp (up_product, down_product) (omega arith))

-- a product with a sum
pub *ℤ-+ℤ : (a b c : ℤ) → a *ℤ (b +ℤ c) ≡ a *ℤ b +ℤ a *ℤ c
*ℤ-+ℤ a b c =
    same_in (a *ℤ (b +ℤ c)) (a *ℤ b +ℤ a *ℤ c)
    (omega (arith, product_is a (b +ℤ c), product_is a b, product_is a c, sum_is_lem (a *ℤ b) (a *ℤ c), ap (λ s. up a * s) (sum_is_lem b c), ap (λ s. down a * s) (sum_is_lem b c)))

pub +ℤ-*ℤ : (a b c : ℤ) → (a +ℤ b) *ℤ c ≡ a *ℤ c +ℤ b *ℤ c
+ℤ-*ℤ a b c = rw (*ℤ_comm (a +ℤ b) c, *ℤ_comm a c, *ℤ_comm b c) (*ℤ-+ℤ c a b)

-- a product with a negation
pub neg_ℤ-*ℤ : (a b : ℤ) → neg_ℤ a *ℤ b ≡ neg_ℤ (a *ℤ b)
neg_ℤ-*ℤ a b = same_in (neg_ℤ a *ℤ b) (neg_ℤ (a *ℤ b)) (simp (up_neg, down_neg, up_product, down_product) (omega arith))

pub *ℤ-neg_ℤ : (a b : ℤ) → a *ℤ neg_ℤ b ≡ neg_ℤ (a *ℤ b)
*ℤ-neg_ℤ a b = rw (*ℤ_comm a (neg_ℤ b), *ℤ_comm a b) (neg_ℤ-*ℤ b a)

-- a product with a difference
pub *ℤ--ℤ : (a b c : ℤ) → a *ℤ (b -ℤ c) ≡ a *ℤ b -ℤ a *ℤ c
*ℤ--ℤ a b c = *ℤ-+ℤ a b (neg_ℤ c) ∙ ap (λ s. a *ℤ b +ℤ s) (*ℤ-neg_ℤ a c)

pub -ℤ-*ℤ : (a b c : ℤ) → (a -ℤ b) *ℤ c ≡ a *ℤ c -ℤ b *ℤ c
-ℤ-*ℤ a b c = +ℤ-*ℤ a (neg_ℤ b) c ∙ ap (λ s. a *ℤ c +ℤ s) (neg_ℤ-*ℤ b c)

-- a product with 1 and with -1
pub *ℤ_one : (a : ℤ) → a *ℤ pos 1 ≡ a
*ℤ_one a = same_in (a *ℤ pos 1) a (omega (arith, product_is a (pos 1)))

pub minus_one-*ℤ : (a : ℤ) → negsuc 0 *ℤ a ≡ neg_ℤ a
minus_one-*ℤ a = same_in (negsuc 0 *ℤ a) (neg_ℤ a) (omega (arith, product_is (negsuc 0) a, neg_is a))
