use Rattle.std.proofs.Common.{◌≡◌, ◌+◌, ℕ, List, ap, ◌∙◌, subst, refl, arith}
use Rattle.rate_table.specs.Table.{row_of}
use Rattle.viterbi_lanes.specs.Decisions.{carried_steps, marks_of}
use Rattle.viterbi_lanes.specs.Marks.{StandsFor}
use Rattle.frame_reader.specs.Decisions.{decisions_by, estimate_from}
use Rattle.frame_reader.specs.Frames.{data_decisions}
use Rattle.frame_starts.proofs.Hearing.{all_heard, joined, none_decided, none_heard, one_more_decided}
use Rattle.frame_starts.proofs.reading.hear_symbols.Goals as goal

pub loop-symbol-init : goal.loop-symbol-init
loop-symbol-init g c = record {
  held = omega (arith, c.requires.empty.held);
  room = refl;
  as_many = none_decided (decisions_by g.D.Decider.decided c.args.samples.now) c.args.header.now;
  stands = none_heard (decisions_by g.D.Decider.decided c.args.samples.now) c.args.header.now c.args.trellis.now c.requires.empty;
  counted = omega arith;
}

pub loop-symbol-preserved : goal.loop-symbol-preserved
loop-symbol-preserved g c =
    let decided = g.D.Decider.decided in
    let samples = c.args.samples.now in
    let decisions = decisions_by decided samples in
    let rate = c.args.header.now.rate in
    let symbol = c.loop-symbol.symbol in
    let next : List ℕ = decided rate (symbol + 1) c.args.estimate.now c.body_of-body.result in
    let is : next ≡ decisions rate (symbol + 1) =
    ap (λ estimate. decided rate (symbol + 1) estimate c.body_of-body.result) c.requires.estimate
    ∙ ap (decided rate (symbol + 1) (estimate_from samples)) c.body_of-body.ensures in
    let taken = c.hear_symbol.ensures.appended (data_decisions decisions rate symbol) c.loop-symbol.invariant.as_many c.loop-symbol.invariant.stands in
    record {
      held = c.hear_symbol.ensures.held;
      room = c.hear_symbol.ensures.room ∙ c.loop-symbol.invariant.room;
      as_many = one_more_decided decisions rate symbol next is c.hear_symbol.ensures.as_many c.loop-symbol.invariant.as_many;
      stands =
          subst (λ (list : List ℕ). StandsFor c.hear_symbol.new.trellis
          (marks_of (row_of rate).code_rate list (carried_steps rate c.args.header.now.length (symbol + 1)))) (joined decisions rate symbol next is) taken;
      counted = omega (arith, c.hear_symbol.ensures.counted_at_most, c.loop-symbol.invariant.counted);
    }

pub returns-clause-stands : goal.returns-clause-stands
returns-clause-stands g c =
    let last : c.loop-symbol.symbol ≡ c.symbols_in-symbol-end.result = omega arith in
    let header = c.args.header.now in
    all_heard (decisions_by g.D.Decider.decided c.args.samples.now) header c.loop-symbol.trellis c.loop-symbol.symbol _ (last ∙ c.symbols_in-symbol-end.ensures.value)
    (ap (carried_steps header.rate header.length) last ∙ c.symbols_in-symbol-end.ensures.all) c.loop-symbol.invariant.stands
