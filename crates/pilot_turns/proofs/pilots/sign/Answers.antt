use Rattle.std.proofs.Common.{◌≡◌, ◌<◌, ◌≤◌, ap, sym, ◌∙◌, arith, ℤ, pos, ◌-ℤ◌, neg_ℤ, unsigned_abs, w64, to_z, of_z}
use Rattle.std.proofs.lemmas.Int.{ints}
use Rattle.fixed_complex.proofs.Parts.{held_is}
use Rattle.symbol_builder.proofs.Pilots.{polarity_size}
use Rattle.pilot_turns.specs.Pilots.{sign_of_pilot}
use Rattle.pilot_turns.proofs.Signs.{sign_first, sign_last}
use Rattle.pilot_turns.proofs.pilots.sign.Goals as goal

negation : (z : ℤ) → unsigned_abs z ≤ 1 → to_z w64 (of_z w64 (pos 0 -ℤ to_z w64 (of_z w64 z))) ≡ neg_ℤ z
negation z small = omega (arith, ints)

pub overflow_sub-result : goal.overflow_sub-result
overflow_sub-result c =
    let small : unsigned_abs c.polarity.result ≤ 1 = rw c.polarity.ensures (polarity_size _) in
    omega (arith, ints)

pub returns-then-k-eq3-clause-sign : goal.returns-then-k-eq3-clause-sign
returns-then-k-eq3-clause-sign c =
    let small : unsigned_abs c.polarity.result ≤ 1 = rw c.polarity.ensures (polarity_size _) in
    let last : c.args.k ≡ 3 = c.if-k-eq3.true in
    negation c.polarity.result small ∙ ap neg_ℤ c.polarity.ensures ∙ sign_last c.args.n ∙ ap (sign_of_pilot c.args.n) (sym last)

pub returns-then-k-eq3-clause-within : goal.returns-then-k-eq3-clause-within
returns-then-k-eq3-clause-within c =
    let small : unsigned_abs c.polarity.result ≤ 1 = rw c.polarity.ensures (polarity_size _) in
    omega (arith, ints)

pub returns-else-k-eq3-clause-sign : goal.returns-else-k-eq3-clause-sign
returns-else-k-eq3-clause-sign c =
    let small : unsigned_abs c.polarity-else-k-eq3.result ≤ 1 = rw c.polarity-else-k-eq3.ensures (polarity_size _) in
    let first : c.args.k < 3 = omega (arith, c.requires, c.if-k-eq3.false) in
    held_is c.polarity-else-k-eq3.result (omega (arith, small)) ∙ c.polarity-else-k-eq3.ensures ∙ sign_first c.args.n c.args.k first

pub returns-else-k-eq3-clause-within : goal.returns-else-k-eq3-clause-within
returns-else-k-eq3-clause-within c =
    let small : unsigned_abs c.polarity-else-k-eq3.result ≤ 1 = rw c.polarity-else-k-eq3.ensures (polarity_size _) in
    omega (arith, ints)
