-- Samples near an echoed body have 16 bits, and bring each carrier over its channel.
use Rattle.std.proofs.Common.{ℕ, ◌+◌, ◌*◌, ◌^◌, ◌≤◌, List, ap, inl, inr, arith, ℤ, pos, ◌-ℤ◌, ◌*ℤ◌, unsigned_abs}
use Rattle.std.proofs.lemmas.Bool.{cases_lt}
use Rattle.std.proofs.lemmas.Int.{ints}
use Rattle.std.proofs.lemmas.List.{get_or_past}
use Rattle.fixed_complex.specs.declared.Cx.{Cx}
use Rattle.fixed_complex.specs.declared.Sample.{Sample}
use Rattle.fixed_complex.specs.Pairs.{IsWithin}
use Rattle.fixed_complex.specs.Samples.{pair_at, sample_at}
use Rattle.carrier_equaliser.specs.Received.{received}
use Rattle.carrier_equaliser.proofs.ComingBack.{received_are_near}
use Rattle.decided_axis.specs.Bodies.{FitABody}
use Rattle.decided_axis.specs.Channels.{AreCarried}
use Rattle.echo_taps.specs.Taps.{IsEcho}
use Rattle.echo_channels.specs.Channels.{IsNearEchoedBody, channel_of, echoed_body}
use Rattle.echo_channels.proofs.Prefix.{carried_in_echo}
use Rattle.echo_channels.proofs.Sizes.{body_is_small}

part_of_16_bits : (r v : ℤ) (bound : ℕ) → bound ≤ 32 → unsigned_abs (pos 2147483648 *ℤ r -ℤ v) ≤ 2147483648 * bound → unsigned_abs v ≤ 67259251998720 → unsigned_abs r ≤ 32768
part_of_16_bits r v bound most near small = omega (arith, ints)

module _ (bound : ℕ) (taps : List Cx) (carried : ℕ → Cx) (samples : List Sample) (most : bound ≤ 32) (echo : IsEcho taps) (fit : FitABody carried) (near : IsNearEchoedBody bound taps carried samples) where
  small : (n : ℕ) → IsWithin (2 ^ 15) (pair_at samples n)
  small n =
      elim (cases_lt n 64) [
        | inl here ↦
            let part = near.near n here in
            let body = body_is_small taps carried n echo fit in
            let v = echoed_body taps carried n in
            let r = sample_at samples n in
            record {
              re = part_of_16_bits r.i v.re bound most (omega (arith, part.re)) (omega (arith, body.re));
              im = part_of_16_bits r.q v.im bound most (omega (arith, part.im)) (omega (arith, body.im));
            }
        | inr past ↦
            let silent = get_or_past samples n (record { i = pos 0; q = pos 0 }) (omega (arith, near.long)) in
            let i = ap (λ (s : Sample). unsigned_abs s.i) silent in
            let q = ap (λ (s : Sample). unsigned_abs s.q) silent in
            record { re = omega (arith, i); im = omega (arith, q) }
      ]

  pub echoed_carried : AreCarried (2 ^ 30) (91 * bound + 89) (channel_of taps) carried (received samples)
  echoed_carried = carried_in_echo bound taps carried samples (received samples) echo fit near (received_are_near samples small)
