use Rattle.std.proofs.Common.{◌∙◌, arith}
use Rattle.conv_code.proofs.ExclusiveOr.{bit_xor_of_five}
use Rattle.conv_code.proofs.Coded.{IsBit-parity_a, IsBit-parity_b}
use Rattle.conv_code.proofs.Inputs.{branch_a_is, branch_b_is, branch_a_along, branch_b_along}
use Rattle.conv_code.proofs.branch.Goals as goal

pub returns-clause-a : goal.returns-clause-a
returns-clause-a c = grind (arith, bit_xor_of_five, branch_a_is)

pub returns-clause-b : goal.returns-clause-b
returns-clause-b c = grind (arith, bit_xor_of_five, branch_b_is)

pub returns-clause-a_is_bit : goal.returns-clause-a_is_bit
returns-clause-a_is_bit c = rw (returns-clause-a c) (IsBit-parity_a _ 6)

pub returns-clause-b_is_bit : goal.returns-clause-b_is_bit
returns-clause-b_is_bit c = rw (returns-clause-b c) (IsBit-parity_b _ 6)

pub returns-clause-a_along : goal.returns-clause-a_along
returns-clause-a_along c = λ u i bits within same_state same_bit. returns-clause-a c ∙ rw (same_state, same_bit) (branch_a_along u i bits)

pub returns-clause-b_along : goal.returns-clause-b_along
returns-clause-b_along c = λ u i bits within same_state same_bit. returns-clause-b c ∙ rw (same_state, same_bit) (branch_b_along u i bits)
