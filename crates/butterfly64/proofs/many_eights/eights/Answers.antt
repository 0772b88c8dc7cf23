use Rattle.std.proofs.Common.{◌≡◌, ◌+◌, ◌*◌, ◌/◌, ◌%◌, ap, ◌∙◌, arith, rules}
use Rattle.fixed_complex.specs.PairLists.{entry}
use Rattle.butterfly64.proofs.PairsOfEights.{is_pairs_of}
use Rattle.butterfly64.proofs.many_eights.eights.Goals as goal

pub returns : goal.returns
returns c = is_pairs_of c.loop-c.eights c.args.x.now c.loop-c.invariant.long (search rules) (λ n lt.
    let place : 8 * (n / 8) + n % 8 ≡ n = omega arith in
    c.loop-c.invariant.done (n / 8) (n % 8) (omega arith) (omega arith) ∙ ap (entry c.args.x.now) place)
