use Rattle.std.proofs.Common.{◌≡◌, ◌+◌, ◌%◌, sym, ap, ◌∙◌, subst}
use Rattle.rate_table.specs.Table.{rate_at}
use Rattle.frames_in_noise.specs.Laws.{IsFrame}
use Rattle.frame_drills.specs.Draws.{drawn_octets}
use Rattle.frame_drills.proofs.Drawing.{drawn_is_frame, drawn_parts}
use Rattle.frame_drills.proofs.draws.draw.Goals as goal

pub returns-clause-drawn : goal.returns-clause-drawn
returns-clause-drawn c =
    let number = c.args.number in
    let none = c.generator-words.ensures in
    let one = c.draw_word.ensures.behind number 0 none in
    let two = c.draw_word-2.ensures.behind number 1 one in
    let three = c.draw_word-3.ensures.behind number 2 two in
    let four = c.draw_word-lead.ensures.behind number 3 three in
    let rate = c.from_index-rate.ensures ∙ ap (λ w. rate_at (w % 8)) (c.draw_word.ensures.word number 0 none) in
    let octets = c.in_ok-psdu.ensures number four ∙ ap (λ w. drawn_octets number (1 + w % 4095)) (c.draw_word-2.ensures.word number 1 one) in
    let seed : c.unwrap-seed.result ≡ 1 + c.draw_word-3.result % 127 = rw c.unwrap-seed.ensures at c.new.ensures.value in
    drawn_parts number (c.draw_word-lead.result % 2048) c.unwrap-seed.result c.from_index-rate.result c.in_ok-psdu.psdu
    (ap (λ w. w % 2048) (c.draw_word-lead.ensures.word number 3 three)) rate (seed ∙ ap (λ w. 1 + w % 127) (c.draw_word-3.ensures.word number 2 two)) octets

pub returns-clause-sendable : goal.returns-clause-sendable
returns-clause-sendable c = subst IsFrame (sym (returns-clause-drawn c)) (drawn_is_frame c.args.number)
