use Rattle.std.proofs.Common.{◌+◌, ◌-◌, ◌<◌, ◌∙◌, length, drop, pos, ap, sym, arith, rules}
use Rattle.std.proofs.lemmas.List.{get_or-drop, get_or-take, get_or_append_left, length-drop}
use Rattle.fixed_complex.specs.declared.Sample.{Sample}
use Rattle.fixed_complex.specs.Samples.{sample_at}
use Rattle.frame_receiver.proofs.tail.settling.Goals as goal

pub returns-then-front-gt625-clause-at : goal.returns-then-front-gt625-clause-at
returns-then-front-gt625-clause-at c = λ n inside.
    let front = c.as_slices.result.0.now in
    let silent : Sample = record { i = pos 0; q = pos 0 } in
    let long = length-drop 625 front in
    let within : n < length front - 625 = search rules in
    get_or-take (length front - 625) (drop 625 front) n silent within ∙ get_or-drop 625 front n silent
    ∙ sym (get_or_append_left front c.as_slices.result.1.now silent (625 + n) (omega arith)) ∙ ap (λ items. sample_at items (625 + n)) c.as_slices.ensures
