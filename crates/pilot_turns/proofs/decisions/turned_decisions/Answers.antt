use Rattle.std.proofs.Common.{sym, ◌∙◌}
use Rattle.rate_table.specs.declared.Modulation.TheVariants.{Bpsk, Qpsk, Qam16, Qam64}
use Rattle.carrier_equaliser.proofs.Numbers.{zeros_behind}
use Rattle.pilot_turns.proofs.decisions.turned_decisions.Goals as goal

pub returns-in-Bpsk-clause-list : goal.returns-in-Bpsk-clause-list
returns-in-Bpsk-clause-list c = c.decide_numbers.ensures.list c.args.rate (sym c.modulation.ensures ∙ c.in-Bpsk.is)

pub returns-in-Bpsk-clause-others : goal.returns-in-Bpsk-clause-others
returns-in-Bpsk-clause-others c = zeros_behind c.args.rate Bpsk _ (sym c.modulation.ensures ∙ c.in-Bpsk.is) c.decide_numbers.ensures.others

pub returns-in-Qpsk-clause-list : goal.returns-in-Qpsk-clause-list
returns-in-Qpsk-clause-list c = c.decide_numbers-in-Qpsk.ensures.list c.args.rate (sym c.modulation.ensures ∙ c.in-Qpsk.is)

pub returns-in-Qpsk-clause-others : goal.returns-in-Qpsk-clause-others
returns-in-Qpsk-clause-others c = zeros_behind c.args.rate Qpsk _ (sym c.modulation.ensures ∙ c.in-Qpsk.is) c.decide_numbers-in-Qpsk.ensures.others

pub returns-in-Qam16-clause-list : goal.returns-in-Qam16-clause-list
returns-in-Qam16-clause-list c = c.decide_numbers-in-Qam16.ensures.list c.args.rate (sym c.modulation.ensures ∙ c.in-Qam16.is)

pub returns-in-Qam16-clause-others : goal.returns-in-Qam16-clause-others
returns-in-Qam16-clause-others c = zeros_behind c.args.rate Qam16 _ (sym c.modulation.ensures ∙ c.in-Qam16.is) c.decide_numbers-in-Qam16.ensures.others

pub returns-in-Qam64-clause-list : goal.returns-in-Qam64-clause-list
returns-in-Qam64-clause-list c = c.decide_numbers-in-Qam64.ensures.list c.args.rate (sym c.modulation.ensures ∙ c.in-Qam64.is)

pub returns-in-Qam64-clause-others : goal.returns-in-Qam64-clause-others
returns-in-Qam64-clause-others c = zeros_behind c.args.rate Qam64 _ (sym c.modulation.ensures ∙ c.in-Qam64.is) c.decide_numbers-in-Qam64.ensures.others
