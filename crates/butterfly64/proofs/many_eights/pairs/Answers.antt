use Rattle.std.proofs.Common.{sym, arith, rules}
use Rattle.butterfly64.proofs.PairsOfEights.{is_pairs_of}
use Rattle.butterfly64.proofs.many_eights.pairs.Goals as goal

pub returns : goal.returns
returns c = sym (is_pairs_of c.args.x.now c.loop-n.pairs (search rules) c.loop-n.invariant.long (λ n lt. sym (c.loop-n.invariant.done n (omega arith))))
