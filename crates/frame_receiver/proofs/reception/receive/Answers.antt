use Rattle.std.proofs.Common.{◌≡◌, ◌<◌, [], length, take, pos, arith}
use Rattle.std.proofs.lemmas.Bool.Decides.{nat_tests}
use Rattle.std.proofs.lemmas.List.{take_all, take_more}
use Rattle.frame_receiver.specs.declared.reception.ReceiveFault.TheVariants.{CutFrame, NoFrame}
use Rattle.frame_receiver.proofs.Receptions.{cut_found, no_frames, nothing_found}
use Rattle.frame_receiver.proofs.Noise.{found_in_noise, some_in_noise}
use Rattle.frame_receiver.proofs.reception.receive.Goals as goal

pub loop-sample-preserved : goal.loop-sample-preserved
loop-sample-preserved c = record {
  stands =
      let stood = c.in_ok-hear_sample.ensures.stands _ c.loop-sample.invariant.stands in
      let inside : c.loop-sample.sample-index < length c.args.capture.now = omega arith in
      let more = take_more c.args.capture.now c.loop-sample.sample-index (record { i = pos 0; q = pos 0 }) inside in
      rw more stood;
  count = omega arith;
  counted = omega arith;
  bounded = omega arith;
}

pub returns-then-is_empty-clause-no_frame : goal.returns-then-is_empty-clause-no_frame
returns-then-is_empty-clause-no_frame c = λ is.
    let whole : take c.loop-sample.sample-index c.args.capture.now ≡ c.args.capture.now = take_all _ _ (omega arith) in
    let findings = rw whole at (c.end-cut.ensures.findings _ c.loop-sample.heard c.loop-sample.invariant.stands) in
    let none : c.loop-sample.heard ≡ [] = no_frames c.loop-sample.heard (grind (arith, nat_tests, c.if-is_empty.ensures, c.if-is_empty.true, c.is_empty.ensures, c.as_slice.ensures)) in
    let fault : c.fault_of.result ≡ NoFrame = cc in
    nothing_found c.args.capture.now c.end-cut.result c.fault_of.result c.fault_of.ensures fault (rw none at findings)

pub returns-then-is_empty-clause-cut_frame : goal.returns-then-is_empty-clause-cut_frame
returns-then-is_empty-clause-cut_frame c = λ start have need is.
    let whole : take c.loop-sample.sample-index c.args.capture.now ≡ c.args.capture.now = take_all _ _ (omega arith) in
    let findings = rw whole at (c.end-cut.ensures.findings _ c.loop-sample.heard c.loop-sample.invariant.stands) in
    let none : c.loop-sample.heard ≡ [] = no_frames c.loop-sample.heard (grind (arith, nat_tests, c.if-is_empty.ensures, c.if-is_empty.true, c.is_empty.ensures, c.as_slice.ensures)) in
    let fault : c.fault_of.result ≡ CutFrame start have need = cc in
    cut_found c.args.capture.now c.end-cut.result c.fault_of.result start have need c.fault_of.ensures fault (rw none at findings)

pub returns-clause-findings : goal.returns-clause-findings
returns-clause-findings c =
    let whole : take c.loop-sample.sample-index c.args.capture.now ≡ c.args.capture.now = take_all _ _ (omega arith) in
    rw whole at (c.end-cut.ensures.findings _ c.loop-sample.heard c.loop-sample.invariant.stands)

pub returns-clause-in_noise : goal.returns-clause-in_noise
returns-clause-in_noise c = λ frames has. found_in_noise c.args.capture.now frames _ _ has (returns-clause-findings c)

pub returns-then-is_empty-clause-some_in_noise : goal.returns-then-is_empty-clause-some_in_noise
returns-then-is_empty-clause-some_in_noise c = λ frames has is. some_in_noise c.args.capture.now frames _ has (returns-then-is_empty-clause-no_frame c is)

pub returns-then-is_empty-clause-whole_in_noise : goal.returns-then-is_empty-clause-whole_in_noise
returns-then-is_empty-clause-whole_in_noise c = λ frames start have need has is. some_in_noise c.args.capture.now frames _ has (returns-then-is_empty-clause-cut_frame c start have need is)
