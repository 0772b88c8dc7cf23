use Rattle.std.proofs.Common.{rules, ◌≡◌, ◌≢◌, [], length, refl, sym, arith}
use Rattle.capture_hearing.proofs.Ending.{ends_torn, ends_whole, no_lines, some_lines}
use Rattle.capture_hearing.proofs.hearing.Hearing.end.Goals as goal

pub returns-then-rest-ne0-clause-refused : goal.returns-then-rest-ne0-clause-refused
returns-then-rest-ne0-clause-refused c = λ bytes heard.
    let some : length c.self.inside.piecer ≢ 0 = search rules in
    ends_torn _ bytes _ (rw (← c.self.view_is) at heard) some (omega (arith, c.rest.ensures.count, c.rest.ensures.few)) refl

pub returns-then-is_empty-clause-refused : goal.returns-then-is_empty-clause-refused
returns-then-is_empty-clause-refused c = λ bytes heard.
    let opened = rw (← c.self.view_is) at heard in
    let none : length c.self.inside.piecer ≡ 0 = search rules in
    let empty : length c.self.inside.lines ≡ 0 = search rules in
    let frames : opened.lines.heard ≡ [] = no_lines opened.lines.heard _ opened.lines.lines_are empty in
    ends_whole _ bytes c.end-cut.result _ opened none c.end-cut.ensures.findings (rw frames (sym c.no_whole_frame.ensures.value))

pub returns-clause-text : goal.returns-clause-text
returns-clause-text c = λ bytes heard.
    let opened = rw (← c.self.view_is) at heard in
    let none : length c.self.inside.piecer ≡ 0 = search rules in
    let some : length c.self.inside.lines ≢ 0 = search rules in
    ends_whole _ bytes c.end-cut.result _ opened none c.end-cut.ensures.findings (some_lines opened.lines.heard _ _ _ opened.lines.lines_are some (c.text_with.ensures opened.lines.heard opened.lines.lines_are))
