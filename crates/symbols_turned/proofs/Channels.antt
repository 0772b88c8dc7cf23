-- A carrier and the estimate of its channel, each with the turn of a symbol.
use Rattle.std.proofs.Common.{◌≡◌, ℕ, ◌+◌, ◌*◌, refl, arith, ℤ, pos, ◌+ℤ◌, ◌-ℤ◌, ◌*ℤ◌, ◌≤ℤ◌}
use Rattle.integer_laws.specs.Size.{sum_of_squares}
use Rattle.integer_laws.proofs.Order.{pos-*ℤ-≤ℤ}
use Rattle.integer_laws.proofs.Ring.{ring, number, ◌⊕◌, ◌⊖◌, ◌⊗◌, ◌≗◌}
use Rattle.integer_laws.proofs.Sizes.{size_of_unscaled, sum_of_squares-scaled}
use Rattle.fixed_complex.specs.declared.Cx.{Cx}
use Rattle.fixed_complex.specs.Pairs.{IsAtLeastOfSize, IsOfSize, minus, multiple, plus, times}
use Rattle.fixed_complex.proofs.Pairs.{same_parts}
use Rattle.fixed_complex.proofs.Sums.{minus_plus}
use Rattle.fixed_complex.proofs.PairSizes.{size-multiple, size-plus, size-times, wider}
use Rattle.decided_axis.specs.Channels.{IsCarried, IsEstimated}
use Rattle.symbols_turned.specs.Turns.{IsTurn, unturned}
use Rattle.symbols_turned.proofs.Pilots.{full}
use Rattle.symbols_turned.proofs.Turning.{estimate_out, turn_large, turn_small}

-- ---- a carrier
carrier_law : (s : ℤ) (y x w : Cx) → minus (multiple s (multiple (pos 16384) y)) (multiple (pos 32) (times x (multiple (pos 16384) w))) ≡ multiple (pos 16384) (minus (multiple s y) (multiple (pos 32) (times x w)))
unfolding times
carrier_law s y x w = same_parts _ _ (re s y.re x.re x.im w.re w.im) (im s y.im x.re x.im w.re w.im)
  where
    re : (s y a b c d : ℤ) → s *ℤ (pos 16384 *ℤ y) -ℤ pos 32 *ℤ (a *ℤ (pos 16384 *ℤ c) -ℤ b *ℤ (pos 16384 *ℤ d)) ≡ pos 16384 *ℤ (s *ℤ y -ℤ pos 32 *ℤ (a *ℤ c -ℤ b *ℤ d))
    re = ring 6 (λ s y a b c d. s ⊗ (number (pos 16384) ⊗ y) ⊖ number (pos 32) ⊗ (a ⊗ (number (pos 16384) ⊗ c) ⊖ b ⊗ (number (pos 16384) ⊗ d)) ≗ number (pos 16384) ⊗ (s ⊗ y ⊖ number (pos 32) ⊗ (a ⊗ c ⊖ b ⊗ d))) refl

    im : (s y a b c d : ℤ) → s *ℤ (pos 16384 *ℤ y) -ℤ pos 32 *ℤ (a *ℤ (pos 16384 *ℤ d) +ℤ b *ℤ (pos 16384 *ℤ c)) ≡ pos 16384 *ℤ (s *ℤ y -ℤ pos 32 *ℤ (a *ℤ d +ℤ b *ℤ c))
    im = ring 6 (λ s y a b c d. s ⊗ (number (pos 16384) ⊗ y) ⊖ number (pos 32) ⊗ (a ⊗ (number (pos 16384) ⊗ d) ⊕ b ⊗ (number (pos 16384) ⊗ c)) ≗ number (pos 16384) ⊗ (s ⊗ y ⊖ number (pos 32) ⊗ (a ⊗ d ⊕ b ⊗ c))) refl

pub carried_more : (error : ℕ) (turn sent received : Cx) → IsCarried 1048576 error turn sent received → IsCarried 1048576 (16384 * error) (multiple (pos 16384) turn) sent (multiple (pos 16384) received)
carried_more error turn sent received near = record {
  near = rw (carrier_law (pos 1048576) received sent turn) (wider (16384 * (1048576 * error)) (1048576 * (16384 * error)) _ (omega arith) (size-multiple 16384 (1048576 * error) _ near.near));
}

-- ---- the estimate
estimate_law : (s : ℤ) (h v w : Cx) → minus (multiple s (times h v)) (multiple (pos 41472) (multiple (pos 16384) w)) ≡ plus (multiple (pos 41472) (minus (multiple s v) (multiple (pos 16384) w))) (multiple s (times (minus h full) v))
unfolding times
estimate_law s h v w = same_parts _ _ (re s h.re h.im v.re v.im w.re) (im s h.re h.im v.re v.im w.im)
  where
    re : (s a b c d w : ℤ) → s *ℤ (a *ℤ c -ℤ b *ℤ d) -ℤ pos 41472 *ℤ (pos 16384 *ℤ w) ≡ pos 41472 *ℤ (s *ℤ c -ℤ pos 16384 *ℤ w) +ℤ s *ℤ ((a -ℤ pos 41472) *ℤ c -ℤ (b -ℤ pos 0) *ℤ d)
    re = ring 6 (λ s a b c d w. s ⊗ (a ⊗ c ⊖ b ⊗ d) ⊖ number (pos 41472) ⊗ (number (pos 16384) ⊗ w) ≗ number (pos 41472) ⊗ (s ⊗ c ⊖ number (pos 16384) ⊗ w) ⊕ s ⊗ ((a ⊖ number (pos 41472)) ⊗ c ⊖ (b ⊖ number (pos 0)) ⊗ d)) refl

    im : (s a b c d w : ℤ) → s *ℤ (a *ℤ d +ℤ b *ℤ c) -ℤ pos 41472 *ℤ (pos 16384 *ℤ w) ≡ pos 41472 *ℤ (s *ℤ d -ℤ pos 16384 *ℤ w) +ℤ s *ℤ ((a -ℤ pos 41472) *ℤ d +ℤ (b -ℤ pos 0) *ℤ c)
    im = ring 6 (λ s a b c d w. s ⊗ (a ⊗ d ⊕ b ⊗ c) ⊖ number (pos 41472) ⊗ (number (pos 16384) ⊗ w) ≗ number (pos 41472) ⊗ (s ⊗ d ⊖ number (pos 16384) ⊗ w) ⊕ s ⊗ ((a ⊖ number (pos 41472)) ⊗ d ⊕ (b ⊖ number (pos 0)) ⊗ c)) refl

-- how large a turn that is near is
told_size : (most : ℕ) (turn v : Cx) → IsTurn turn → IsOfSize (1048576 * most) (minus (multiple (pos 1048576) v) (multiple (pos 16384) turn)) → IsOfSize (16385 + most) v
told_size most turn v is near =
    let both = size-plus (1048576 * most) (16384 * 1048578) _ _ near (size-multiple 16384 1048578 turn (turn_small turn is)) in
    let whole : IsOfSize (1048576 * most + 16384 * 1048578) (multiple (pos 1048576) v) = rw (minus_plus (multiple (pos 1048576) v) (multiple (pos 16384) turn)) at both in
    record { size = size_of_unscaled 1048576 v.re v.im (16385 + most) (omega arith) (wider (1048576 * most + 16384 * 1048578) (1048576 * (16385 + most)) (multiple (pos 1048576) v) (omega arith) whole).size }

pub estimated_more : (error most : ℕ) (turn v h : Cx) → IsTurn turn → IsEstimated 1048576 error unturned h → IsOfSize (1048576 * most) (minus (multiple (pos 1048576) v) (multiple (pos 16384) turn))
    → IsEstimated 1048576 (41472 * most + error * (16385 + most)) (multiple (pos 16384) turn) (times h v)
estimated_more error most turn v h is estimated near =
    let first = size-multiple 41472 (1048576 * most) _ near in
    let second = size-multiple 1048576 (error * (16385 + most)) _ (size-times error (16385 + most) (minus h full) v (estimate_out error h estimated) (told_size most turn v is near)) in
    record {
      near = rw (estimate_law (pos 1048576) h v turn)
          (wider (41472 * (1048576 * most) + 1048576 * (error * (16385 + most))) (1048576 * (41472 * most + error * (16385 + most))) _ (omega arith) (size-plus (41472 * (1048576 * most)) (1048576 * (error * (16385 + most))) _ _ first second));
    }

-- ---- the channel is as large as the turn
pub large_more : (turn : Cx) → IsTurn turn → IsAtLeastOfSize (16384 * 1048573) (multiple (pos 16384) turn)
large_more turn is =
    let large = turn_large turn is in
    let scaled : (pos 268435456 *ℤ pos (1048573 * 1048573)) ≤ℤ (pos 268435456 *ℤ sum_of_squares turn.re turn.im) = pos-*ℤ-≤ℤ 268435456 (pos (1048573 * 1048573)) (sum_of_squares turn.re turn.im) large.size in
    record { size = rw (sum_of_squares-scaled (pos 16384) turn.re turn.im) scaled }
