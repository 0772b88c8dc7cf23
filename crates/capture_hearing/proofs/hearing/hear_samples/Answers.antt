use Rattle.std.proofs.Common.{◌≡◌, ◌+◌, ◌-◌, ◌++◌, length, take, drop, append_assoc, sym, ap, ◌∙◌, subst, arith, rules}
use Rattle.std.proofs.lemmas.Grind.{common_steps}
use Rattle.std.proofs.lemmas.List.{take_all}
use Rattle.std.proofs.Math.Seq.{take-add}
use Rattle.capture_hearing.specs.Hearing.{HasLines}
use Rattle.capture_hearing.proofs.hearing.hear_samples.Goals as goal

pub hear_some-taken-requires-clause-stood : goal.hear_some-taken-requires-clause-stood
hear_some-taken-requires-clause-stood c = (c.requires.stood.0 ++ take c.loop-taken.taken c.args.samples.now, c.loop-taken.invariant.heard c.requires.stood.0 c.requires.stood.1)

pub loop-taken-preserved : goal.loop-taken-preserved
loop-taken-preserved c =
    let samples = c.args.samples.now in
    let taken = c.loop-taken.taken in
    let more = c.hear_some-taken.result in
    let both : take (taken + more) samples ≡ take taken samples ++ take more (take (length samples - taken) (drop taken samples)) = grind (arith, common_steps, take-add taken more samples) in
    record {
      within = search rules;
      heard = λ before has.
          subst (HasLines c.hear_some-taken.new.receiver c.hear_some-taken.new.lines) (append_assoc before (take taken samples) _ ∙ sym (ap (λ list. before ++ list) both))
          (c.hear_some-taken.ensures.heard (before ++ take taken samples) (c.loop-taken.invariant.heard before has));
      count = search rules;
      counted = search rules;
      bounded = λ was. c.hear_some-taken.ensures.bounded;
    }

pub returns-clause-heard : goal.returns-clause-heard
returns-clause-heard c = λ before has.
    let all = take_all c.loop-taken.taken c.args.samples.now (search rules) in
    subst (λ list. HasLines c.loop-taken.receiver c.loop-taken.lines (before ++ list)) all (c.loop-taken.invariant.heard before has)
