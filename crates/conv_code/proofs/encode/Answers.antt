use Rattle.std.proofs.Common.{◌≡◌, ℕ, List, ◌++◌, length, replicate, ap, ◌∙◌, arith, rules}
use Rattle.std.proofs.lemmas.List.{take_at}
use Rattle.conv_code.specs.Code.{code_of}
use Rattle.conv_code.proofs.Coded.{Codes-code_of, AreBits-code_of}
use Rattle.conv_code.proofs.encode.Goals as goal

pub returns-clause-list : goal.returns-clause-list
returns-clause-list c =
    let bits = c.args.bits.now in
    let start : c.in_ok-inputs.inputs.items ≡ replicate 6 0 = search rules in
    let behind : c.deref.result.now ≡ replicate 6 0 ++ bits =
    c.deref.ensures.value ∙ c.in_ok-extend_from_slice.ensures.items ∙ ap (λ (front : List ℕ). front ++ bits) start in
    let whole : c.put_code.new.code ≡ code_of bits = c.put_code.ensures bits behind in
    let long : length c.put_code.new.code ≡ c.in_ok-code.code.len = omega (arith, ap length whole, (Codes-code_of bits).twice, c.in_ok-code.ensures.len) in
    take_at c.put_code.new.code _ c.in_ok-code.code.len long ∙ whole

pub returns-clause-codes : goal.returns-clause-codes
returns-clause-codes c = rw (returns-clause-list c) (Codes-code_of c.args.bits.now)

pub returns-clause-bits : goal.returns-clause-bits
returns-clause-bits c = rw (returns-clause-list c) (AreBits-code_of c.args.bits.now)
