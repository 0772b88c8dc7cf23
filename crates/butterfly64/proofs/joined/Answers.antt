use Rattle.std.proofs.Common.{◌≡◌, ℕ, ◌^◌, arith}
use Rattle.fixed_complex.specs.declared.Cx.{Cx}
use Rattle.fixed_complex.specs.Pairs.{IsWithin, IsOfSize, scaled_product}
use Rattle.fixed_complex.specs.Turns.{turn_at}
use Rattle.fixed_complex.proofs.PairSizes.{wider, within-size, size-scaled_product}
use Rattle.fixed_complex.proofs.TurnLaws.{turn-within, turn-size}
use Rattle.butterfly64.proofs.joined.Goals as goal

pub scaled-turned-requires-clause-w : goal.scaled-turned-requires-clause-w
scaled-turned-requires-clause-w c = rw c.turn.ensures (turn-within c.args.m)

-- a turned pair has room for the sum
turned : (m : ℕ) (odd turned : Cx) → IsOfSize (2 ^ 39) odd → turned ≡ scaled_product (turn_at m) odd → IsWithin (2 ^ 61) turned
turned m odd t size is =
    rw is (within-size (2 ^ 61) _ (wider _ (2 ^ 61) _ (omega arith) (size-scaled_product (2 ^ 39) (turn_at m) odd (turn-size m) size)))

pub add-requires-clause-b : goal.add-requires-clause-b
add-requires-clause-b c = turned c.args.m c.args.odd _ c.requires.odd (rw c.turn.ensures at c.scaled-turned.ensures)

pub sub-requires-clause-b : goal.sub-requires-clause-b
sub-requires-clause-b c = turned c.args.m c.args.odd _ c.requires.odd (rw c.turn.ensures at c.scaled-turned.ensures)
