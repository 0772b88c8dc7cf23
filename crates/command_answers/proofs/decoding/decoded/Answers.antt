use Rattle.std.proofs.Common.{◌∙◌, inr, refl, rules, sym}
use Rattle.std.proofs.lemmas.Result.{err_from_is_err_and}
use Rattle.command_answers.proofs.OfText.{bad_bits, bits_written, needed, other_bits}
use Rattle.command_answers.proofs.decoding.decoded.Goals as goal

pub returns-in_err-bits-clause-refused : goal.returns-in_err-bits-clause-refused
returns-in_err-bits-clause-refused c =
    let refused = err_from_is_err_and c.from_residual.result c.from_residual.ensures.1 in
    rw (refused.1, refused.2) (bad_bits c.args.rate c.args.octets c.args.text.now _ c.in_err-bits.ensures.bad)

pub returns-then-len-need-clause-refused : goal.returns-then-len-need-clause-refused
returns-then-len-need-clause-refused c =
    inr (
      refl,
      other_bits c.args.rate c.args.octets c.args.text.now c.in_ok-bits.bits.items c.len-then-len-need.result c.symbols.result c.coded_bits.result
          (c.in_ok-bits.ensures.bits, c.in_ok-bits.ensures.read) (c.len-then-len-need.ensures ∙ search rules) c.symbols.ensures.ceiling c.coded_bits.ensures
          (λ same. c.if-len-need.true (c.len.ensures ∙ sym c.len-then-len-need.ensures ∙ same)),
    )

pub returns-clause-ok : goal.returns-clause-ok
returns-clause-ok c =
    let field = c.in_ok-field.field in
    rw c.into_vec.ensures
    (bits_written c.args.rate c.args.octets c.args.text.now c.in_ok-bits.bits.items field.psdu (c.in_ok-bits.ensures.bits, c.in_ok-bits.ensures.read)
    (sym (c.len.ensures ∙ search rules) ∙ c.if-len-need.false ∙ needed c.args.rate c.args.octets c.symbols.result c.coded_bits.result c.symbols.ensures.ceiling c.coded_bits.ensures)
    (field.seed, (field.distance, rw c.deref.ensures.value at c.in_ok-field.ensures.field)))
