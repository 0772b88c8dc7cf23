use Rattle.std.proofs.Common.{ap, ◌∙◌}
use Rattle.rate_table.specs.Table.{row_of}
use Rattle.interleave_two.specs.Place.{second_place, group_of, interleaved_place, source_of}
use Rattle.interleave_two.proofs.Ways.{source_of-interleaved_place}
use Rattle.interleave_two.proofs.place.Goals as goal

pub returns-clause-place : goal.returns-clause-place
unfolding interleaved_place
returns-clause-place c =
    let row = row_of c.args.rate in
    c.second_place.ensures.place ∙ ap (second_place row.coded_bits (group_of row.bits_per_carrier)) c.first_place.ensures.place

pub returns-clause-undone : goal.returns-clause-undone
returns-clause-undone c = ap (source_of c.args.rate) (returns-clause-place c) ∙ source_of-interleaved_place c.args.rate c.args.k c.requires
