use Rattle.std.proofs.Common.{ap, sym, ◌∙◌}
use Rattle.rate_table.specs.Table.{row_of}
use Rattle.interleave_two.specs.Place.{interleaved_place}
use Rattle.interleave_two.specs.Source.{first_source}
use Rattle.interleave_two.proofs.Ways.{source_of-by_formula, interleaved_place-source_of}
use Rattle.interleave_two.proofs.unplace.Goals as goal

pub returns-clause-source : goal.returns-clause-source
returns-clause-source c =
    c.first_source.ensures.source
    ∙ ap (first_source (row_of c.args.rate).coded_bits) c.second_source.ensures.source
    ∙ sym (source_of-by_formula c.args.rate c.args.j c.requires)

pub returns-clause-undone : goal.returns-clause-undone
returns-clause-undone c = ap (interleaved_place c.args.rate) (returns-clause-source c) ∙ interleaved_place-source_of c.args.rate c.args.j c.requires
