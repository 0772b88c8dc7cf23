use Rattle.std.proofs.Common.{◌≡◌, ◌∙◌, ℕ, refl, sym}
use Rattle.std.proofs.lemmas.Result.{err_from_is_err_and}
use Rattle.character_texts.specs.declared.ReadFault.{ReadFault}
use Rattle.character_texts.specs.declared.ReadFault.TheVariants.{BadCharacter, NoMemory}
use Rattle.bit_lists.specs.declared.TextFault.TheVariants.{BadBit}
use Rattle.bit_lists.specs.Faults.{fault_of}
use Rattle.bit_lists.proofs.read_text.Goals as goal

-- where no bit stands, no character was read
of_character : (e : ReadFault) (at : ℕ) → fault_of e ≡ BadBit at → e ≡ BadCharacter at
of_character (BadCharacter place) at is = cc
of_character (NoMemory e) at is = absurd cc

pub returns-in_err-read_values-clause-bad : goal.returns-in_err-read_values-clause-bad
returns-in_err-read_values-clause-bad c = λ at same.
    let p = err_from_is_err_and c.from_residual.result c.from_residual.ensures.1 in
    let refused : p.0 ≡ BadBit at = cc in
    c.in_err-read_values.ensures.bad at (rw (of_character c.in_err-read_values.field-0.0 at (sym p.2 ∙ refused)) refl)
