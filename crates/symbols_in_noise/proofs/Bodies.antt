-- Samples near a plain body have 16 bits, and bring each carrier 32 times, to within an error.
use Rattle.std.proofs.Common.{◌≡◌, ℕ, ◌+◌, ◌*◌, ◌<◌, ◌≤◌, List, length, refl, ap, sym, subst, inl, inr, arith, ℤ, pos, ◌+ℤ◌, ◌-ℤ◌, ◌*ℤ◌, unsigned_abs}
use Rattle.std.proofs.lemmas.Bool.{cases_lt}
use Rattle.std.proofs.lemmas.Int.{ints}
use Rattle.std.proofs.lemmas.List.{get_or_past}
use Rattle.std.proofs.lemmas.List.FromFn.{length-map-range_with_len}
use Rattle.integer_laws.proofs.Order.{pos-le}
use Rattle.integer_laws.proofs.Ring.{ring, number, ◌⊕◌, ◌⊖◌, ◌⊗◌, ◌≗◌}
use Rattle.fixed_complex.specs.declared.Cx.{Cx}
use Rattle.fixed_complex.specs.declared.Sample.{Sample}
use Rattle.fixed_complex.specs.PairLists.{entry}
use Rattle.fixed_complex.specs.Pairs.{IsOfSize, IsWithin, times}
use Rattle.fixed_complex.specs.Samples.{pair_at, sample_at}
use Rattle.fixed_complex.proofs.PairLists.{entry-map}
use Rattle.fixed_complex.proofs.Pairs.{same_parts}
use Rattle.plain_waves.specs.Bodies.{all_times, plain_body}
use Rattle.plain_waves.specs.Bounds.{FitASample}
use Rattle.plain_waves.specs.Nearness.{AreNearPlain}
use Rattle.plain_waves.proofs.Loads.{plain_within}
use Rattle.plain_waves.proofs.Places.{plain_body-local}
use Rattle.carrier_equaliser.specs.Received.{received}
use Rattle.carrier_equaliser.specs.Nearness.{IsNearWave}
use Rattle.carrier_equaliser.proofs.ComingBack.{received_are_near}
use Rattle.decided_axis.specs.Bodies.{FitABody}
use Rattle.decided_axis.specs.Channels.{AreCarried}
use Rattle.decided_axis.proofs.Waves.{carried_by_one}
use Rattle.symbols_in_noise.specs.Laws.{IsNearBody}

-- a body depends on its 64 bins alone
pub same_body : (x y : ℕ → Cx) → ((bin : ℕ) → bin < 64 → x bin ≡ y bin) → all_times (plain_body x) ≡ all_times (plain_body y)
same_body x y same = ap all_times (λ i n. plain_body-local x y same n i)

-- ---- samples of 16 bits
part_of_16_bits : (r w : ℤ) (bound : ℕ) → bound ≤ 64 → unsigned_abs (pos 2097152 *ℤ r -ℤ w) ≤ 2097152 * bound → unsigned_abs w ≤ 52546290624 → unsigned_abs r ≤ 32768
part_of_16_bits r w bound most near small = omega (arith, ints)

pub of_16_bits : (bound : ℕ) (xs : List Cx) (samples : List Sample) → bound ≤ 64 → FitASample xs → IsNearBody bound (entry xs) samples → (n : ℕ) → IsWithin 32768 (pair_at samples n)
of_16_bits bound xs samples most fits near n =
    elim (cases_lt n (length samples)) [
      | inl here ↦
          let below : n < 64 = omega (arith, near.long, length-map-range_with_len (plain_body (entry xs)) 0 64) in
          let part = rw (entry-map (plain_body (entry xs)) 64 n below) at (near.each n here) in
          let plain = plain_within xs fits n in
          let w = plain_body (entry xs) n in
          let r = sample_at samples n in
          record { re = part_of_16_bits r.i w.re bound most part.i plain.re; im = part_of_16_bits r.q w.im bound most part.q plain.im }
      | inr past ↦
          let silent = get_or_past samples n (record { i = pos 0; q = pos 0 }) past in
          let i = ap (λ (s : Sample). unsigned_abs s.i) silent in
          let q = ap (λ (s : Sample). unsigned_abs s.q) silent in
          record { re = omega (arith, i); im = omega (arith, q) }
    ]

-- ---- received carriers
-- the channel of noise alone
abbrev pub one : Cx
one = record { re = pos 1; im = pos 0 }

alone : (x : Cx) → times one x ≡ x
unfolding times
alone x = same_parts _ _ (re x.re x.im) (im x.re x.im)
  where
    re : (x y : ℤ) → pos 1 *ℤ x -ℤ pos 0 *ℤ y ≡ x
    re = ring 2 (λ x y. number (pos 1) ⊗ x ⊖ number (pos 0) ⊗ y ≗ x) refl

    im : (x y : ℤ) → pos 1 *ℤ y +ℤ pos 0 *ℤ x ≡ y
    im = ring 2 (λ x y. number (pos 1) ⊗ y ⊕ number (pos 0) ⊗ x ≗ y) refl

one_small : IsOfSize 1 one
one_small = record { size = pos-le 1 1 (omega arith) }

-- samples near the plain body of what 64 bins carry
module _ (bound : ℕ) (sent : ℕ → Cx) (samples : List Sample) (most : bound ≤ 64) (fit : FitABody sent) (near : IsNearBody bound sent samples) where
  small : (n : ℕ) → IsWithin 32768 (pair_at samples n)
  small =
      let same : (bin : ℕ) → bin < 64 → sent bin ≡ entry (all_times sent) bin = λ bin lt. sym (entry-map sent 64 bin lt) in
      of_16_bits bound (all_times sent) samples most fit.fits (subst (AreNearPlain bound samples) (same_body sent (entry (all_times sent)) same) near)

  near_wave : IsNearWave 1 bound (λ n. times one (plain_body sent n)) samples
  near_wave n lt =
      let here : n < length samples = omega (arith, near.long, length-map-range_with_len (plain_body sent) 0 64) in
      let part = rw (entry-map (plain_body sent) 64 n lt) at (near.each n here) in
      rw (alone (plain_body sent n)) (record { re = omega (arith, part.i); im = omega (arith, part.q) })

  pub carried : AreCarried 1 (91 * bound + 70) (λ _. one) sent (received samples)
  carried = carried_by_one 1 bound 1 one sent samples (received samples) (omega arith) one_small (omega arith) fit.within near_wave (received_are_near samples small)
