use Rattle.std.proofs.Common.{ℕ, List, ◌≡◌, ◌≤◌, ◌⊎◌, inl, inr, arith}
use Rattle.std.proofs.lemmas.Bool.{cases_lt}
use Rattle.list_texts.proofs.HexDigits.{bad_inside, bad_whole, good_whole}
use Rattle.list_texts.proofs.digits.check_digits.Goals as goal
use Rattle.list_texts.proofs.digits.check_digits.Goals.{then-end-word-via-then-end-word, then-end-word-via-else-end-word+then-end-eq0, then-end-word-via-else-end-word+else-end-eq0+then-end-eq1}

pub returns-then-end-word-clause-bad : goal.returns-then-end-word-clause-bad
returns-then-end-word-clause-bad c =
    let word : List ℕ = c.args.word.now in
    let first : ℕ = c.digits_end.result in
    let end : ℕ = c.min-end.result in
    let least : end ≤ first = omega (arith, c.min-end.ensures) in
    let few : end ≤ 8190 = omega (arith, c.min-end.ensures) in
    let which : (end ≡ first) ⊎ (end ≡ 8190) = elim (cases_lt first 8190) [ inl l ↦ inl (omega (arith, c.min-end.ensures)) | inr l ↦ inr (omega (arith, c.min-end.ensures)) ] in
    elim c.then-end-word.branch [
      | then-end-word-via-then-end-word w ↦ bad_inside word first end c.digits_end.ensures least few which w.if-end-word.true
      | then-end-word-via-else-end-word+then-end-eq0 w ↦ bad_whole word first end c.digits_end.ensures least few w.if-end-word.false (inl w.if-end-eq0.true)
      | then-end-word-via-else-end-word+else-end-eq0+then-end-eq1 w ↦ bad_whole word first end c.digits_end.ensures least few w.if-end-word.false (inr w.if-end-eq1.true)
    ]

pub returns-clause-good : goal.returns-clause-good
returns-clause-good c =
    good_whole c.args.word.now c.digits_end.result c.min-end.result c.digits_end.ensures (omega (arith, c.min-end.ensures)) (omega (arith, c.min-end.ensures)) c.if-end-word.false c.if-end-eq0.false c.if-end-eq1.false
