use Rattle.std.proofs.Common.{arith}
use Rattle.integer_laws.proofs.Sizes.{size_of_parts}
use Rattle.fixed_complex.proofs.PairSizes.{wider, size-plus, size-minus, size-times, size-conjugate, within-size}
use Rattle.fixed_complex.proofs.laws.sizes_of_pairs.Goals as goal

pub returns-clause-sum : goal.returns-clause-sum
returns-clause-sum c = size-plus

pub returns-clause-difference : goal.returns-clause-difference
returns-clause-difference c = size-minus

pub returns-clause-product : goal.returns-clause-product
returns-clause-product c = size-times

pub returns-clause-conjugate : goal.returns-clause-conjugate
returns-clause-conjugate c = size-conjugate

pub returns-clause-component : goal.returns-clause-component
returns-clause-component c = within-size

pub returns-clause-components : goal.returns-clause-components
returns-clause-components c = λ a c x enough of_x. record { size = size_of_parts x.re x.im a a c of_x.re of_x.im (omega (arith, enough)) }

pub returns-clause-monotone : goal.returns-clause-monotone
returns-clause-monotone c = wider
