use Rattle.std.proofs.Common.{◌≡◌, ℕ, ◌^◌, ◌<◌, ◌≤◌, rules, ap, sym, ◌∙◌, arith}
use Rattle.std.specs.Prelude.{ℤ, FitsSigned, pos, ◌+ℤ◌, unsigned_abs}
use Rattle.std.specs.Int.{w64, cast_signed, cast_unsigned}
use Rattle.std.proofs.lemmas.Int.{ints, to_z-of_z, to_z_pos}
use Rattle.std.proofs.lemmas.Nat.{le_or_l, le_or_r}
use Rattle.butterfly64.proofs.bits_of.Goals as goal

-- a number whose bits, with 2^23 added, are below 2^24
small : (part : ℤ) (bits : ℕ) → FitsSigned w64 part → FitsSigned w64 (part +ℤ pos (2 ^ 23)) → bits ≡ cast_unsigned w64 (cast_signed w64 (cast_unsigned w64 (cast_signed w64 (cast_unsigned w64 part) +ℤ pos (2 ^ 23)))) → bits < 2 ^ 24 → unsigned_abs part ≤ 2 ^ 23
small part bits fits more is below =
    let same : cast_signed w64 (cast_unsigned w64 part) ≡ part = to_z-of_z w64 part fits in
    let sum = part +ℤ pos (2 ^ 23) in
    let plain : bits ≡ cast_unsigned w64 sum = is ∙ ap (λ z. cast_unsigned w64 (cast_signed w64 (cast_unsigned w64 (z +ℤ pos (2 ^ 23))))) same ∙ ap (cast_unsigned w64) (to_z-of_z w64 sum more) in
    let back : cast_signed w64 bits ≡ sum = ap (cast_signed w64) plain ∙ to_z-of_z w64 sum more in
    let whole : pos bits ≡ part +ℤ pos (2 ^ 23) = sym (to_z_pos w64 bits (omega arith)) ∙ back in
    omega (arith, ints)

pub returns : goal.returns
returns c = λ below.
    let u = c.cast_unsigned.result in
    let v = c.cast_unsigned-2.result in
    record {
      re = small c.args.pair.re u (search rules) (omega (arith, ints, c.requires.re)) c.cast_unsigned.ensures (omega (arith, le_or_l u v));
      im = small c.args.pair.im v (search rules) (search rules) c.cast_unsigned-2.ensures (omega (arith, le_or_r u v));
    }
