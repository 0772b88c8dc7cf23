use Rattle.std.proofs.Common.{◌^◌, arith}
use Rattle.fixed_complex.proofs.PairLists.{within-set, within-zeros}
use Rattle.butterfly64.proofs.tests.one_entry.Goals as goal

pub returns : goal.returns
returns c = within-set (2 ^ 30) _ c.args.place _ (within-zeros (2 ^ 30) 64) (record { re = omega arith; im = omega arith })
