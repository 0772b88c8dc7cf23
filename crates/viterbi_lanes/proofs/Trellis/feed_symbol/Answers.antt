use Rattle.std.proofs.Common.{◌≡◌, ◌+◌, ◌*◌, ◌≤◌, ◌++◌, ap, arith, ◌∙◌, sym}
use Rattle.puncture_map.specs.Kept.{kept_count}
use Rattle.rate_table.specs.Table.{row_of}
use Rattle.viterbi_lanes.specs.Decisions.{carried_steps, marks_of}
use Rattle.viterbi_lanes.proofs.Symbols.{enough_decisions, marks_join, symbol_in_field}
use Rattle.viterbi_lanes.proofs.Trellis.feed_symbol.Goals as goal

pub feed-requires-clause-decisions : goal.feed-requires-clause-decisions
feed-requires-clause-decisions c =
    let rate = c.args.rate in
    let few : c.min.result ≤ (row_of rate).field_bits = omega (arith, c.min.ensures, c.field_bits-field_bits.ensures) in
    let count : kept_count c.code_rate.result c.min.result ≤ (row_of rate).coded_bits = rw c.code_rate.ensures (enough_decisions rate c.min.result few) in
    omega (arith, count, c.requires.decisions)

pub returns-clause-appended : goal.returns-clause-appended
returns-clause-appended c = λ before long stands.
    let rate = c.args.rate in
    let octets = c.args.octets in
    let symbol = c.args.symbol in
    let code_rate = (row_of rate).code_rate in
    let base = symbol * (row_of rate).field_bits in
    let decisions = c.args.decisions.now in
    let steps = c.min.result in
    let within = symbol_in_field rate octets symbol c.requires.symbol in
    let at_base : carried_steps rate octets symbol ≡ base = omega (arith, within.begins) in
    let product : symbol * c.field_bits-field_bits.result ≡ base = ap (λ n. symbol * n) c.field_bits-field_bits.ensures in
    let at_next : carried_steps rate octets (symbol + 1) ≡ base + steps = omega (arith, within.begins, within.next, product, c.min.ensures, c.field_bits-field_bits.ensures, c.from.ensures) in
    let stood = c.feed.ensures.appended (marks_of code_rate before (carried_steps rate octets symbol)) stands in
    let joined : marks_of code_rate before (carried_steps rate octets symbol) ++ marks_of c.code_rate.result decisions steps ≡ marks_of code_rate (before ++ decisions) (carried_steps rate octets (symbol + 1)) =
    ap (λ n. marks_of code_rate before n ++ marks_of c.code_rate.result decisions steps) at_base
    ∙ ap (λ r. marks_of code_rate before base ++ marks_of r decisions steps) c.code_rate.ensures
    ∙ sym (marks_join rate before decisions symbol steps long)
    ∙ ap (marks_of code_rate (before ++ decisions)) (sym at_next) in
    rw joined at stood
