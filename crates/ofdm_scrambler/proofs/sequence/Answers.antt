use Rattle.std.proofs.Common.{◌≡◌, arith, length}
use Rattle.std.proofs.lemmas.List.FromFn.{fill_by_all}
use Rattle.std.proofs.lemmas.List.Edits.{fill_by_more}
use Rattle.ofdm_scrambler.specs.Sequence.{scrambler_bit}
use Rattle.ofdm_scrambler.proofs.LastSeven.{HoldsBefore-start, HoldsBefore-more, next_bit_is, AreBits-scrambler_sequence}
use Rattle.ofdm_scrambler.proofs.sequence.Goals as goal

pub loop-bit-init : goal.loop-bit-init
loop-bit-init c = record {
  held = rw c.before_first-register.ensures (HoldsBefore-start c.args.seed);
  written = λ k h. absurd (omega arith);
}

pub loop-bit-preserved : goal.loop-bit-preserved
loop-bit-preserved c =
    let seed = c.args.seed in
    let place = c.loop-bit.bit-index in
    let before = c.loop-bit.register in
    let made : c.next_bit.result ≡ scrambler_bit seed place =
    next_bit_is seed place before.bits c.next_bit.result c.loop-bit.invariant.held c.next_bit.ensures.bit in
    record {
      held = HoldsBefore-more seed place before.bits c.next_bit.result _ c.loop-bit.invariant.held before.seven_bits made c.next_bit.ensures.shifted;
      written = rw made (fill_by_more (scrambler_bit seed) c.loop-bit.out place 0 (omega arith) c.loop-bit.invariant.written);
    }

pub returns-clause-values : goal.returns-clause-values
returns-clause-values c =
    fill_by_all (scrambler_bit c.args.seed) c.loop-bit.out (length c.args.out.now) 0 (omega arith) (λ k h. c.loop-bit.invariant.written k (omega arith))

pub returns-clause-bits : goal.returns-clause-bits
returns-clause-bits c =
    rw (returns-clause-values c) (AreBits-scrambler_sequence c.args.seed (length c.args.out.now))
