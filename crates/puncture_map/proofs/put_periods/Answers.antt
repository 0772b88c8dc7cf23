use Rattle.std.proofs.Common.{◌≡◌, ◌++◌, [], length, ap, sym, ◌∙◌, arith, rules}
use Rattle.std.proofs.lemmas.List.{take_all}
use Rattle.puncture_map.proofs.KeptBits.{kept_bits, kept_bits-half}
use Rattle.puncture_map.proofs.put_periods.Goals as goal

pub returns-in_ok-extend_from_slice-in-Half-clause-kept : goal.returns-in_ok-extend_from_slice-in-Half-clause-kept
returns-in_ok-extend_from_slice-in-Half-clause-kept c =
    let code = c.args.code.now in
    let start : c.args.bits.now.items ≡ [] = search rules in
    c.in_ok-extend_from_slice-in-Half.ensures.items
    ∙ ap (λ bits. bits ++ code) start
    ∙ sym (ap (λ rate. kept_bits rate code (length code)) c.in-Half.is ∙ kept_bits-half code (length code) (omega arith) ∙ take_all (length code) code (omega arith))
