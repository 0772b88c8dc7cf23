use Rattle.std.proofs.Common.{◌≡◌, ◌+◌, ◌-◌, ◌∙◌, drop, take, ap, arith}
use Rattle.std.proofs.lemmas.List.{length-drop}
use Rattle.frame_findings.proofs.Reporting.{finding_header, finding_no_match}
use Rattle.frame_findings.proofs.inspection.finding_at.Goals as goal

pub returns-in-None-clause-finding : goal.returns-in-None-clause-finding
returns-in-None-clause-finding c =
    let first : c.copy_from_slice.new.self ≡ take 400 (drop c.args.place c.args.capture.now) =
    let size : c.args.place + 400 - c.args.place ≡ 400 = omega arith in
    c.copy_from_slice.ensures.after ∙ ap (λ k. take k (drop c.args.place c.args.capture.now)) size in
    finding_no_match (drop c.args.place c.args.capture.now) c.copy_from_slice.new.self first
    (omega (arith, length-drop c.args.place c.args.capture.now, c.if-capture-place-lt400.false, c.requires.place)) c.in-None.ensures.no_match

pub returns-in-Some-clause-finding : goal.returns-in-Some-clause-finding
returns-in-Some-clause-finding c =
    let first : c.copy_from_slice.new.self ≡ take 400 (drop c.args.place c.args.capture.now) =
    let size : c.args.place + 400 - c.args.place ≡ 400 = omega arith in
    c.copy_from_slice.ensures.after ∙ ap (λ k. take k (drop c.args.place c.args.capture.now)) size in
    finding_header (drop c.args.place c.args.capture.now) c.copy_from_slice.new.self c.in-Some.read c.finding_of.result first
    (omega (arith, length-drop c.args.place c.args.capture.now, c.if-capture-place-lt400.false, c.requires.place)) c.in-Some.ensures.like c.in-Some.ensures.says
    c.finding_of.ensures
