use Rattle.std.proofs.Common.{◌≡◌, map, take}
use Rattle.std.specs.Prelude.{All}
use Rattle.character_texts.proofs.read_values.Given as goal

abbrev pub invariant-loop-at : goal.invariant-loop-at
invariant-loop-at g l = record {
  so_far : map g.A.Alphabet.written l.values.items ≡ take l.at l.characters;
  values : All g.A.Alphabet.is_value l.values.items;
}
