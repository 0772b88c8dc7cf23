use Rattle.std.proofs.Common.{◌∙◌, List, subst}
use Rattle.std.specs.Prelude.{◌↔◌, IsTrue}
use Rattle.fixed_complex.specs.declared.Sample.{Sample}
use Rattle.frame_drills.specs.Captures.{ComesBack}
use Rattle.frame_drills.proofs.captures.try_frame.Goals as goal

pub returns-clause-back : goal.returns-clause-back
returns-clause-back c =
    let P : List Sample → Type 0 = λ list. IsTrue c.in_ok-is_back.is_back ↔ ComesBack list c.args.frame.now in
    subst P (c.deref.ensures.value ∙ c.in_ok-capture.ensures.samples) c.in_ok-is_back.ensures.back
