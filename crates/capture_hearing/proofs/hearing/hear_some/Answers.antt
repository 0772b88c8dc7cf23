use Rattle.std.proofs.Common.{◌≡◌, ◌∷◌, [], ◌++◌, take, pos, append-nil, ap, ◌∙◌, subst, arith}
use Rattle.std.proofs.Math.Seq.{take-suc}
use Rattle.fixed_complex.specs.declared.Sample.{Sample}
use Rattle.fixed_complex.specs.Samples.{sample_at}
use Rattle.capture_hearing.specs.Hearing.{HasLines}
use Rattle.capture_hearing.proofs.MoreSamples.{lines_stay}
use Rattle.capture_hearing.proofs.hearing.hear_some.Goals as goal

pub returns-then-skimmed-gt0-clause-heard : goal.returns-then-skimmed-gt0-clause-heard
returns-then-skimmed-gt0-clause-heard c = λ before has.
    lines_stay c.args.receiver.now c.skim-skimmed.new.self c.args.lines.now before (take c.skim-skimmed.result c.args.samples.now) (c.skim-skimmed.ensures.stands before) has

pub returns-clause-heard : goal.returns-clause-heard
returns-clause-heard c = λ before has.
    let silent : Sample = record { i = pos 0; q = pos 0 } in
    let none : c.skim-skimmed.result ≡ 0 = omega (arith, c.if-skimmed-gt0.false) in
    let skimmed = lines_stay c.args.receiver.now c.skim-skimmed.new.self c.args.lines.now before (take c.skim-skimmed.result c.args.samples.now) (c.skim-skimmed.ensures.stands before) has in
    let one : take 1 c.args.samples.now ≡ sample_at c.args.samples.now 0 ∷ [] = take-suc c.args.samples.now 0 silent c.requires.some in
    rw one (c.hear_sample.ensures.heard before
    (subst (HasLines c.skim-skimmed.new.self c.args.lines.now) (ap (λ n. before ++ take n c.args.samples.now) none ∙ append-nil before) skimmed))
