use Rattle.std.proofs.Common.{◌≡◌, ◌-◌, ◌∙◌, length, drop, min, ap, arith}
use Rattle.std.proofs.lemmas.List.{drop_min, length-drop, take_all}
use Rattle.frame_starts.proofs.reading.samples_from.Goals as goal

pub returns : goal.returns
returns c =
    let capture = c.args.capture.now in
    let at = c.min.result in
    let place : at ≡ min c.args.start (length capture) = omega (arith, c.min.ensures) in
    take_all (length capture - at) (drop at capture) (omega (arith, length-drop at capture)) ∙ ap (λ n. drop n capture) place ∙ drop_min c.args.start capture
