use Rattle.std.proofs.Common.{◌^◌, arith}
use Rattle.fixed_complex.proofs.PairSizes.{wider, within_wider, within-size, within-conjugate, size-minus}
use Rattle.fixed_complex.proofs.TurnLaws.{turn-within}
use Rattle.butterfly64.proofs.parted.Goals as goal

pub conj-requires : goal.conj-requires
conj-requires c = rw c.turn.ensures (within_wider (2 ^ 20) (2 ^ 61) _ (omega arith) (turn-within c.args.m))

pub sub-requires-clause-b : goal.sub-requires-clause-b
sub-requires-clause-b c = within-size (2 ^ 61) _ (wider _ (2 ^ 61) _ (omega arith) c.requires.last)

pub scaled-requires-clause-w : goal.scaled-requires-clause-w
scaled-requires-clause-w c = rw (c.conj.ensures, c.turn.ensures) (within-conjugate (2 ^ 20) _ (turn-within c.args.m))

pub scaled-requires-clause-z : goal.scaled-requires-clause-z
scaled-requires-clause-z c = rw c.sub.ensures (within-size (2 ^ 40) _ (size-minus (2 ^ 39) (2 ^ 39) c.args.first c.args.last c.requires.first c.requires.last))
