-- The ring law at work.
use Rattle.std.proofs.Common.{◌≡◌, refl}
use Rattle.std.specs.Prelude.{ℤ, pos, ◌+ℤ◌, ◌-ℤ◌, ◌*ℤ◌}
use Rattle.integer_laws.proofs.Ring.{ring, square, number, ◌⊕◌, ◌⊖◌, ◌⊗◌, ◌≗◌}
use Rattle.integer_laws.proofs.PairRing.{pair_ring, ◌⊞◌, ◌⊠◌, ◌≑◌}

-- the product of two sums of two squares is a sum of two squares
pub two_squares : (a b c d : ℤ) → (a *ℤ c -ℤ b *ℤ d) *ℤ (a *ℤ c -ℤ b *ℤ d) +ℤ (a *ℤ d +ℤ b *ℤ c) *ℤ (a *ℤ d +ℤ b *ℤ c) ≡ (a *ℤ a +ℤ b *ℤ b) *ℤ (c *ℤ c +ℤ d *ℤ d)
two_squares = ring 4 (λ a b c d. square (a ⊗ c ⊖ b ⊗ d) ⊕ square (a ⊗ d ⊕ b ⊗ c) ≗ (square a ⊕ square b) ⊗ (square c ⊕ square d)) refl

-- a number in an identity
pub scaled_square : (a b : ℤ) → (pos 1048576 *ℤ a +ℤ b) *ℤ (pos 1048576 *ℤ a +ℤ b) ≡ pos 1099511627776 *ℤ (a *ℤ a) +ℤ pos 2097152 *ℤ (a *ℤ b) +ℤ b *ℤ b
scaled_square = ring 2 (λ a b. square (number (pos 1048576) ⊗ a ⊕ b) ≗ number (pos 1099511627776) ⊗ square a ⊕ number (pos 2097152) ⊗ (a ⊗ b) ⊕ square b) refl

-- the complex product distributes over a sum, component by component
pub product_of_a_sum : (a_re a_im b_re b_im t_re t_im : ℤ) → ((a_re +ℤ b_re) *ℤ t_re -ℤ (a_im +ℤ b_im) *ℤ t_im ≡ a_re *ℤ t_re -ℤ a_im *ℤ t_im +ℤ (b_re *ℤ t_re -ℤ b_im *ℤ t_im)) × ((a_re +ℤ b_re) *ℤ t_im +ℤ (a_im +ℤ b_im) *ℤ t_re ≡ a_re *ℤ t_im +ℤ a_im *ℤ t_re +ℤ (b_re *ℤ t_im +ℤ b_im *ℤ t_re))
product_of_a_sum = pair_ring 3 (λ a b t. (a ⊞ b) ⊠ t ≑ a ⊠ t ⊞ b ⊠ t) refl
