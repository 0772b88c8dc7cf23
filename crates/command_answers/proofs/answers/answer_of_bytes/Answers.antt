use Rattle.std.proofs.Common.{refl}
use Rattle.command_answers.specs.InOrder.{with_it}
use Rattle.command_answers.proofs.answers.answer_of_bytes.Goals as goal

pub returns-in-Decode-clause-refused : goal.returns-in-Decode-clause-refused
returns-in-Decode-clause-refused c = rw c.in-Decode.is c.decoded.ensures.refused

pub returns-in-DecodeSoft-clause-refused : goal.returns-in-DecodeSoft-clause-refused
returns-in-DecodeSoft-clause-refused c = rw c.in-DecodeSoft.is c.soft_decoded.ensures.refused

pub returns-in-SendList-clause-refused : goal.returns-in-SendList-clause-refused
returns-in-SendList-clause-refused c = rw c.in-SendList.is c.listed.ensures.refused

pub returns-in_ok-drill_text-in-Drill-clause-ok : goal.returns-in_ok-drill_text-in-Drill-clause-ok
returns-in_ok-drill_text-in-Drill-clause-ok c =
    rw c.in-Drill.is (with_it c.in_ok-drill_text-in-Drill.field-0.items c.in_ok-drill_text-in-Drill.ensures refl)
