use Rattle.std.proofs.Common.{◌≡◌, ◌∙◌, ℕ, refl, sym}
use Rattle.std.proofs.lemmas.Result.{err_from_is_err_and}
use Rattle.character_texts.specs.declared.ReadFault.{ReadFault}
use Rattle.character_texts.specs.declared.ReadFault.TheVariants.{BadCharacter, NoMemory}
use Rattle.soft_trellis.specs.declared.texts.CostFault.TheVariants.{BadCost}
use Rattle.soft_trellis.specs.Faults.{fault_of}
use Rattle.soft_trellis.proofs.texts.read_costs.Goals as goal

-- where no digit stands, no character was read
of_character : (e : ReadFault) (at : ℕ) → fault_of e ≡ BadCost at → e ≡ BadCharacter at
of_character (BadCharacter place) at is = cc
of_character (NoMemory e) at is = absurd cc

pub returns-in_err-read_values-clause-bad : goal.returns-in_err-read_values-clause-bad
returns-in_err-read_values-clause-bad c = λ at same.
    let p = err_from_is_err_and c.from_residual.result c.from_residual.ensures.1 in
    let refused : p.0 ≡ BadCost at = cc in
    c.in_err-read_values.ensures.bad at (rw (of_character c.in_err-read_values.field-0.0 at (sym p.2 ∙ refused)) refl)
