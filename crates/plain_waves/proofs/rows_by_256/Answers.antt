use Rattle.std.proofs.Common.{◌+◌, ◌*◌, ◌/◌, ◌%◌, arith}
use Rattle.fixed_complex.proofs.PairLists.{everywhere_within}
use Rattle.plain_waves.proofs.Parts.{by_256_size}
use Rattle.plain_waves.proofs.rows_by_256.Goals as goal

pub returns-clause-sizes : goal.returns-clause-sizes
returns-clause-sizes c = record {
  each = λ n lt.
      rw (c.loop-r.invariant.done (n / 8) (n % 8) (omega arith) (omega arith))
      (by_256_size _ (everywhere_within 954 c.args.carriers.now c.requires (8 * (n / 8) + n % 8)));
}
