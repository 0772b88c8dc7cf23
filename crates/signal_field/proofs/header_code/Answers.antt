use Rattle.std.proofs.Common.{◌≡◌, ◌∙◌, ◌<◌, refl, arith, length}
use Rattle.std.proofs.lemmas.List.{length-set}
use Rattle.conv_code.specs.Code.{code_of, earlier, parity_a, parity_b}
use Rattle.conv_code.specs.States.{state_before}
use Rattle.conv_code.proofs.Coded.{AreBits-code_of, coded_more}
use Rattle.signal_field.proofs.Signal.{code_whole, length-header_bits_of}
use Rattle.signal_field.proofs.header_code.Goals as goal

pub loop-k-init : goal.loop-k-init
unfolding state_before earlier
loop-k-init c = record { long = refl; coded = refl; state = refl; below = omega arith }

pub loop-k-preserved : goal.loop-k-preserved
loop-k-preserved c =
    let u = c.header_bits-bits.result in
    let k = c.loop-k.k in
    let bits = c.header_bits-bits.ensures.bits in
    let within : k < length u = rw c.header_bits-bits.ensures.list (omega (arith, length-header_bits_of c.args.header.now.rate c.args.header.now.length c.args.header.now.reserved)) in
    let a : c.branch-a.result.0 ≡ parity_a u k = c.branch-a.ensures.a_along u k bits within c.loop-k.invariant.state refl in
    let b : c.branch-a.result.1 ≡ parity_b u k = c.branch-a.ensures.b_along u k bits within c.loop-k.invariant.state refl in
    record {
      long = length-set _ _ _ ∙ length-set _ _ _ ∙ c.loop-k.invariant.long;
      coded = coded_more u c.loop-k.code k c.branch-a.result.0 c.branch-a.result.1 (let long = c.loop-k.invariant.long in omega arith) a b c.loop-k.invariant.coded;
      state = c.next_state-state.ensures.after_along u k bits within c.loop-k.invariant.state refl;
      below = c.next_state-state.ensures.below_64;
    }

pub returns-clause-list : goal.returns-clause-list
returns-clause-list c =
    let u = c.header_bits-bits.result in
    let long : length u ≡ 24 = rw c.header_bits-bits.ensures.list (length-header_bits_of c.args.header.now.rate c.args.header.now.length c.args.header.now.reserved) in
    let whole : c.loop-k.code ≡ code_of u = code_whole u c.loop-k.code c.loop-k.k long c.loop-k.invariant.long (omega (arith, c.loop-k.auto.k-end)) c.loop-k.invariant.coded in
    rw c.header_bits-bits.ensures.list at whole

pub returns-clause-bits : goal.returns-clause-bits
returns-clause-bits c = rw (returns-clause-list c) (AreBits-code_of _)
