use Rattle.std.proofs.Common.{◌≡◌, ◌*◌, map, take}
use Rattle.std.specs.Prelude.{All}
use Rattle.character_texts.proofs.read_blocks.Given as goal

abbrev pub invariant-loop-k : goal.invariant-loop-k
invariant-loop-k g l = record {
  so_far : map g.A.Alphabet.written l.values.items ≡ take (16 * l.k) l.characters;
  values : All g.A.Alphabet.is_value l.values.items;
}
