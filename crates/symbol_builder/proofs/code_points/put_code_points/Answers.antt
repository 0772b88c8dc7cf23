use Rattle.std.proofs.Common.{◌∙◌, ◌<◌, sym, arith}
use Rattle.rate_table.specs.Table.{row_of}
use Rattle.interleave_two.proofs.Ways.{source_of-lt}
use Rattle.symbol_builder.proofs.CodePoints.{code_points_are}
use Rattle.symbol_builder.proofs.code_points.put_code_points.Goals as goal

pub put_points-requires-clause-within : goal.put_points-requires-clause-within
put_points-requires-clause-within c = λ j lt.
    let below : j < (row_of c.args.rate).coded_bits = omega (arith, c.sources_in_order-sources.ensures.long) in
    omega (arith, c.sources_in_order-sources.ensures.sources j below, source_of-lt c.args.rate j below, c.requires.whole)

pub returns-in-Bpsk-clause-points : goal.returns-in-Bpsk-clause-points
returns-in-Bpsk-clause-points c =
    code_points_are c.args.rate _ c.args.code.now c.sources_in_order-sources.result.now _ (sym c.modulation.ensures ∙ c.in-Bpsk.is) c.sources_in_order-sources.ensures.long c.sources_in_order-sources.ensures.sources c.put_points.ensures.points

pub put_points-requires-in-Qpsk-clause-within : goal.put_points-requires-in-Qpsk-clause-within
put_points-requires-in-Qpsk-clause-within c = λ j lt.
    let below : j < (row_of c.args.rate).coded_bits = omega (arith, c.sources_in_order-sources.ensures.long) in
    omega (arith, c.sources_in_order-sources.ensures.sources j below, source_of-lt c.args.rate j below, c.requires.whole)

pub returns-in-Qpsk-clause-points : goal.returns-in-Qpsk-clause-points
returns-in-Qpsk-clause-points c =
    code_points_are c.args.rate _ c.args.code.now c.sources_in_order-sources.result.now _ (sym c.modulation.ensures ∙ c.in-Qpsk.is) c.sources_in_order-sources.ensures.long c.sources_in_order-sources.ensures.sources c.put_points-in-Qpsk.ensures.points

pub put_points-requires-in-Qam16-clause-within : goal.put_points-requires-in-Qam16-clause-within
put_points-requires-in-Qam16-clause-within c = λ j lt.
    let below : j < (row_of c.args.rate).coded_bits = omega (arith, c.sources_in_order-sources.ensures.long) in
    omega (arith, c.sources_in_order-sources.ensures.sources j below, source_of-lt c.args.rate j below, c.requires.whole)

pub returns-in-Qam16-clause-points : goal.returns-in-Qam16-clause-points
returns-in-Qam16-clause-points c =
    code_points_are c.args.rate _ c.args.code.now c.sources_in_order-sources.result.now _ (sym c.modulation.ensures ∙ c.in-Qam16.is) c.sources_in_order-sources.ensures.long c.sources_in_order-sources.ensures.sources c.put_points-in-Qam16.ensures.points

pub put_points-requires-in-Qam64-clause-within : goal.put_points-requires-in-Qam64-clause-within
put_points-requires-in-Qam64-clause-within c = λ j lt.
    let below : j < (row_of c.args.rate).coded_bits = omega (arith, c.sources_in_order-sources.ensures.long) in
    omega (arith, c.sources_in_order-sources.ensures.sources j below, source_of-lt c.args.rate j below, c.requires.whole)

pub returns-in-Qam64-clause-points : goal.returns-in-Qam64-clause-points
returns-in-Qam64-clause-points c =
    code_points_are c.args.rate _ c.args.code.now c.sources_in_order-sources.result.now _ (sym c.modulation.ensures ∙ c.in-Qam64.is) c.sources_in_order-sources.ensures.long c.sources_in_order-sources.ensures.sources c.put_points-in-Qam64.ensures.points
