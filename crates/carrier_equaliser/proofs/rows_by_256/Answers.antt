use Rattle.std.proofs.Common.{◌≡◌, ◌+◌, ◌*◌, ◌/◌, ◌%◌, ◌^◌, ◌≤◌, length, subst, arith, inl, inr}
use Rattle.std.proofs.lemmas.Bool.{cases_lt}
use Rattle.std.proofs.lemmas.List.{get_or_past}
use Rattle.fixed_complex.specs.Pairs.{IsWithin}
use Rattle.fixed_complex.specs.PairLists.{by_256}
use Rattle.fixed_complex.specs.Samples.{pair_at}
use Rattle.fixed_complex.proofs.PairSizes.{size-multiple, size-within}
use Rattle.butterfly64.specs.Rows.{place_in}
use Rattle.carrier_equaliser.proofs.rows_by_256.Goals as goal

pub returns-clause-of_16_bits : goal.returns-clause-of_16_bits
returns-clause-of_16_bits c = λ n.
    elim (cases_lt n 64) [
      | inl here ↦
          let whole : 8 * (n / 8) + n % 8 ≡ n = omega arith in
          subst (λ m. IsWithin (2 ^ 15) (pair_at c.args.samples.now m)) whole (c.loop-r.invariant.of_16_bits (n / 8) (n % 8) (omega arith) (omega arith))
      | inr past ↦
          let behind : length c.args.samples.now ≤ n = omega (arith, c.told-samples) in
          rw (get_or_past c.args.samples.now n _ behind) (record { re = omega arith; im = omega arith })
    ]

pub returns-clause-pairs : goal.returns-clause-pairs
returns-clause-pairs c = λ n lt.
    let whole : 8 * (n / 8) + n % 8 ≡ n = omega arith in
    subst (λ m. place_in c.loop-r.rows n ≡ by_256 (pair_at c.args.samples.now) m) whole (c.loop-r.invariant.done (n / 8) (n % 8) (omega arith) (omega arith))

pub returns-clause-sizes : goal.returns-clause-sizes
returns-clause-sizes c = record {
  each = λ n lt.
      rw (returns-clause-pairs c n lt)
      (size-multiple 256 (2 ^ 16) (pair_at c.args.samples.now n) (size-within (2 ^ 15) _ (returns-clause-of_16_bits c n)));
}
