use Rattle.std.proofs.Common.{◌≡◌, ℕ, ◌^◌, ◌≤◌, cond, int_le, ℤ, pos, negsuc, ◌-ℤ◌, ◌*ℤ◌, unsigned_abs, inl, inr, arith, to_z, of_z}
use mir.Syntax.{w128}
use Rattle.std.proofs.lemmas.Int.{ints}
use Rattle.constellations.proofs.Thresholds.{above, above_is, bpsk, qam16, qam64, qpsk}
use Rattle.constellations.proofs.place_reached_wide.Goals as goal

-- a number in a word of 128 bits
abbrev held : ℤ → ℤ
held z = to_z w128 (of_z w128 z)

module _ (part m : ℤ) (small_part : unsigned_abs part ≤ 2 ^ 112) (small_m : unsigned_abs m ≤ 2 ^ 112) where
  -- what the code compares fits
  axis : held (pos 1296 *ℤ held part) ≡ pos 1296 *ℤ part
  axis = omega (arith, ints)

  by_410 : held (pos 410 *ℤ held m) ≡ pos 410 *ℤ m
  by_410 = omega (arith, ints)

  below_410 : held (pos 0 -ℤ held (pos 410 *ℤ held m)) ≡ negsuc 409 *ℤ m
  below_410 = omega (arith, ints)

  by_200 : held (pos 200 *ℤ held m) ≡ pos 200 *ℤ m
  by_200 = omega (arith, ints)

  by_400 : held (pos 2 *ℤ held (pos 200 *ℤ held m)) ≡ pos 400 *ℤ m
  by_400 = omega (arith, ints, by_200)

  by_600 : held (pos 3 *ℤ held (pos 200 *ℤ held m)) ≡ pos 600 *ℤ m
  by_600 = omega (arith, ints, by_200)

  below_200 : held (pos 0 -ℤ held (pos 200 *ℤ held m)) ≡ negsuc 199 *ℤ m
  below_200 = omega (arith, ints, by_200)

  below_400 : held (pos 0 -ℤ held (pos 2 *ℤ held (pos 200 *ℤ held m))) ≡ negsuc 399 *ℤ m
  below_400 = omega (arith, ints, by_400)

  below_600 : held (pos 0 -ℤ held (pos 3 *ℤ held (pos 200 *ℤ held m))) ≡ negsuc 599 *ℤ m
  below_600 = omega (arith, ints, by_600)

  -- so it compares an axis with a threshold, and its sign with threshold 0
  reached : (threshold least : ℤ) (a : ℕ) → least ≡ threshold *ℤ m → a ≡ cond (int_le least (held (pos 1296 *ℤ held part))) 1 0 → a ≡ above part m threshold
  reached threshold least a least_is is = above_is part m threshold _ least a axis least_is is

  by_sign : (a : ℕ) → a ≡ cond (int_le (pos 0) (held part)) 1 0 → a ≡ above part m (pos 0)
  by_sign a is = grind (arith, ints)

  none : pos 0 ≡ pos 0 *ℤ m
  none = omega (arith, ints)

pub returns-in-Bpsk-clause-place : goal.returns-in-Bpsk-clause-place
returns-in-Bpsk-clause-place c =
    let sign = by_sign c.args.part c.args.m c.requires.part c.requires.m _ c.reaches.ensures.value in
    elim c.in-Bpsk.is [
      | inl is ↦ rw is (bpsk c.args.part c.args.m c.reaches.result sign)
      | inr is ↦ rw is (qpsk c.args.part c.args.m c.reaches.result sign)
    ]

pub returns-in-Qam16-clause-place : goal.returns-in-Qam16-clause-place
returns-in-Qam16-clause-place c =
    let m = c.args.m in
    let part = c.args.part in
    let small = c.requires.part in
    let small' = c.requires.m in
    let first = reached part m small small' (negsuc 409) _ _ (below_410 part m small small') c.reaches-in-Qam16.ensures.value in
    let second = reached part m small small' (pos 0) _ _ (none part m small small') c.reaches-in-Qam16-2.ensures.value in
    let third = reached part m small small' (pos 410) _ _ (by_410 part m small small') c.reaches-in-Qam16-3.ensures.value in
    rw c.in-Qam16.is (qam16 part m _ _ _ first second third)

pub returns-in-Qam64-clause-place : goal.returns-in-Qam64-clause-place
returns-in-Qam64-clause-place c =
    let m = c.args.m in
    let part = c.args.part in
    let small = c.requires.part in
    let small' = c.requires.m in
    let first = reached part m small small' (negsuc 599) _ _ (below_600 part m small small') c.reaches-in-Qam64.ensures.value in
    let second = reached part m small small' (negsuc 399) _ _ (below_400 part m small small') c.reaches-in-Qam64-2.ensures.value in
    let third = reached part m small small' (negsuc 199) _ _ (below_200 part m small small') c.reaches-in-Qam64-3.ensures.value in
    let fourth = reached part m small small' (pos 0) _ _ (none part m small small') c.reaches-in-Qam64-7.ensures.value in
    let fifth = reached part m small small' (pos 200) _ _ (by_200 part m small small') c.reaches-in-Qam64-4.ensures.value in
    let sixth = reached part m small small' (pos 400) _ _ (by_400 part m small small') c.reaches-in-Qam64-5.ensures.value in
    let seventh = reached part m small small' (pos 600) _ _ (by_600 part m small small') c.reaches-in-Qam64-6.ensures.value in
    rw c.in-Qam64.is (qam64 part m _ _ _ _ _ _ _ first second third fourth fifth sixth seventh)
