use Rattle.std.proofs.Common.{◌<◌, drop, sym, ap, ◌∙◌, refl, rules, slice_index_or}
use Rattle.std.specs.Prelude.{Some, None}
use Rattle.std.proofs.lemmas.List.Elements.{All-drop, All-take}
use Rattle.bit_lists.specs.Bits.{IsBit}
use Rattle.signal_field.specs.Headers.{rate_of_pattern}
use Rattle.signal_field.proofs.Headers.{says_more, says_parity, some_length, zero_length}
use Rattle.signal_field.proofs.Numbers.{pattern_named, pattern_unnamed}
use Rattle.signal_field.proofs.header_of_bits.Goals as goal

pub returns-then-parity-eq1-clause-says : goal.returns-then-parity-eq1-clause-says
returns-then-parity-eq1-clause-says c = sym (says_parity c.args.bits.now (sym c.parity.ensures ∙ c.if-parity-eq1.true))

pub number-pattern-requires-clause-bits : goal.number-pattern-requires-clause-bits
number-pattern-requires-clause-bits c = All-take IsBit 4 c.args.bits.now c.requires

pub returns-in_default-clause-says : goal.returns-in_default-clause-says
returns-in_default-clause-says c =
    let low : c.number-pattern.result < 8 = search rules in
    sym (says_more c.args.bits.now c.number-pattern.result _ None (λ odd. c.if-parity-eq1.false (c.parity.ensures ∙ odd)) c.number-pattern.ensures.value refl (pattern_unnamed c.number-pattern.result low))

pub number-length-requires-clause-bits : goal.number-length-requires-clause-bits
number-length-requires-clause-bits c = All-take IsBit 12 (drop 5 c.args.bits.now) (All-drop IsBit 5 c.args.bits.now c.requires)

pub returns-then-length-eq0-clause-says : goal.returns-then-length-eq0-clause-says
returns-then-length-eq0-clause-says c =
    let rate = c.in-Some.rate in
    let named = ap rate_of_pattern (sym c.in-Some.ensures.named) ∙ pattern_named rate in
    let says = says_more c.args.bits.now c.number-pattern.result c.number-length.result (Some rate) (λ odd. c.if-parity-eq1.false (c.parity.ensures ∙ odd)) c.number-pattern.ensures.value c.number-length.ensures.value named in
    sym (says ∙ zero_length c.number-pattern.result c.number-length.result (slice_index_or c.args.bits.now 4 0) rate c.if-length-eq0.true)

pub returns-clause-says : goal.returns-clause-says
returns-clause-says c =
    let rate = c.in-Some.rate in
    let named = ap rate_of_pattern (sym c.in-Some.ensures.named) ∙ pattern_named rate in
    let says = says_more c.args.bits.now c.number-pattern.result c.number-length.result (Some rate) (λ odd. c.if-parity-eq1.false (c.parity.ensures ∙ odd)) c.number-pattern.ensures.value c.number-length.ensures.value named in
    sym (says ∙ some_length c.number-pattern.result c.number-length.result (slice_index_or c.args.bits.now 4 0) rate c.if-length-eq0.false)
