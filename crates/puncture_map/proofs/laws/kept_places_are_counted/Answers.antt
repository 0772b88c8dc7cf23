use Rattle.std.proofs.Common.{refl}
use Rattle.rate_table.specs.Table.{row_of}
use Rattle.puncture_map.proofs.Counts.{kept_count-symbols}
use Rattle.puncture_map.proofs.Ranks.{kept_count-rises, rank-below, rank-more}
use Rattle.puncture_map.proofs.laws.kept_places_are_counted.Goals as goal

pub returns-clause-one_more : goal.returns-clause-one_more
returns-clause-one_more c = rank-more

pub returns-clause-within : goal.returns-clause-within
returns-clause-within c = rank-below

pub returns-clause-rises : goal.returns-clause-rises
returns-clause-rises c = kept_count-rises

pub returns-clause-whole_symbols : goal.returns-clause-whole_symbols
returns-clause-whole_symbols c = λ rate symbols. kept_count-symbols rate (row_of rate).code_rate symbols refl
