-- The places of mirror order.
use Rattle.std.proofs.Common.{◌≡◌, ℕ, zero, suc, ◌+◌, ◌*◌, ◌/◌, ◌%◌, ◌^◌, ◌<◌, arith, refl, eqb, true}
use Rattle.std.proofs.lemmas.Bool.{eqb-true, agree_below_at}
use Rattle.std.proofs.Math.Nat.{pow-suc}
use Rattle.butterfly64.specs.MirrorOrder.{mirror_of}

-- even places go to the first half
pub mirror_of-even : (k m : ℕ) → mirror_of (suc k) (2 * m) ≡ mirror_of k m
unfolding mirror_of
mirror_of-even k m =
    let e : (2 * m) % 2 ≡ 0 = omega arith in
    let h : (2 * m) / 2 ≡ m = omega arith in
    rw (e, h) (omega arith)

-- and odd ones to the second
pub mirror_of-odd : (k m : ℕ) → mirror_of (suc k) (2 * m + 1) ≡ 2 ^ k + mirror_of k m
unfolding mirror_of
mirror_of-odd k m =
    let e : (2 * m + 1) % 2 ≡ 1 = omega arith in
    let h : (2 * m + 1) / 2 ≡ m = omega arith in
    rw (e, h) (omega arith)

-- a bit before a number below p
one_more : (b p r : ℕ) → b < 2 → r < p → b * p + r < 2 * p
one_more zero p r b_below r_below = omega arith
one_more (suc zero) p r b_below r_below = omega arith
one_more (suc (suc b)) p r b_below r_below = absurd (omega arith)

-- mirrored places are places
pub mirror_of-below : (k n : ℕ) → mirror_of k n < 2 ^ k
unfolding mirror_of
mirror_of-below zero n = omega arith
mirror_of-below (suc k) n = omega (arith, pow-suc 2 k, one_more (n % 2) (2 ^ k) (mirror_of k (n / 2)) (omega arith) (mirror_of-below k (n / 2)))

-- of 64 places, each is the mirrored place of its mirrored place
pub mirror_of-undone : (n : ℕ) → n < 64 → mirror_of 6 (mirror_of 6 n) ≡ n
unfolding mirror_of
mirror_of-undone n h = eqb-true _ _ (agree_below_at (λ m. eqb (mirror_of 6 (mirror_of 6 m)) m) (λ _. true) 64 n refl h)
