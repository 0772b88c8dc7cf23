use Rattle.std.proofs.Common.{sym}
use Rattle.std.specs.Prelude.{[]}
use Rattle.rate_table.specs.declared.CodeRate.TheVariants.{Half}
use Rattle.viterbi_lanes.specs.Decisions.{marks_of}
use Rattle.signal_field.proofs.read_header.Goals as goal

pub returns-clause-read : goal.returns-clause-read
returns-clause-read c = record {
  bits = c.finish.new.out;
  least = c.finish.result;
  nearest = c.finish.ensures.nearest (marks_of Half c.args.decisions.now 24) (c.feed.ensures.appended [] c.start.ensures.stands);
  says = sym c.header_of_bits.ensures.says;
}
