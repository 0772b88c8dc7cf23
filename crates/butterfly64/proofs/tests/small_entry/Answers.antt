use Rattle.std.proofs.Common.{◌^◌, arith}
use Rattle.fixed_complex.proofs.PairLists.{within-set, within-zeros}
use Rattle.fixed_complex.proofs.PairSizes.{size-within, within_wider}
use Rattle.butterfly64.proofs.tests.small_entry.Goals as goal

pub returns : goal.returns
returns c =
    let within = within-set (2 ^ 23) _ c.args.place _ (within-zeros (2 ^ 23) 64) (record { re = omega arith; im = omega arith }) in
    record {
      within = record { each = λ n lt. within_wider (2 ^ 23) (2 ^ 30) _ (omega arith) (within.each n lt) };
      sizes = record { each = λ n lt. size-within (2 ^ 23) _ (within.each n lt) };
    }
