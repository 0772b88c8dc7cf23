-- The kinds of refusals: those that words and input decide, the faults of the ports, and want of memory.
use Rattle.std.proofs.Common.{◌≡◌, ◌⊎◌, inl, inr, refl, subst}
use Rattle.report_lines.specs.declared.Refusal.{Refusal}
use Rattle.report_lines.specs.declared.Refusal.TheVariants.{Words, EmptyPsdu, LongPsdu, TornCapture, LongCapture, BadBit, BitCount, NoFrame, CutFrame, ReadFault, WriteFault, NoMemory, BadScript, BadList, LongList, BadCost, CostCount, CutAt, BadHeader, BadTaps}
use Rattle.report_lines.specs.declared.Status.TheVariants as status
use Rattle.report_lines.specs.Refusals.{IsDecided, asking, status_of, step_of}

pub kinds : (refusal : Refusal) → IsDecided (status_of refusal) ⊎ ((refusal ≡ ReadFault) ⊎ ((refusal ≡ WriteFault) ⊎ (refusal ≡ NoMemory)))
kinds Words = inl tt
kinds EmptyPsdu = inl tt
kinds LongPsdu = inl tt
kinds (TornCapture bytes) = inl tt
kinds LongCapture = inl tt
kinds (BadBit at) = inl tt
kinds (BitCount have need) = inl tt
kinds NoFrame = inl tt
kinds (CutFrame start have need) = inl tt
kinds ReadFault = inr (inl refl)
kinds WriteFault = inr (inr (inl refl))
kinds NoMemory = inr (inr (inr refl))
kinds (BadScript at) = inl tt
kinds (BadList at) = inl tt
kinds (LongList samples) = inl tt
kinds (BadCost at) = inl tt
kinds (CostCount have need) = inl tt
kinds (CutAt start have need) = inl tt
kinds (BadHeader start) = inl tt
kinds (BadTaps at) = inl tt

-- the status of bad words is that of the refusals of words alone
pub of_words : (refusal : Refusal) → status_of refusal ≡ status.BadWords → step_of refusal ≡ asking
of_words Words is = refl
of_words EmptyPsdu is = cc
of_words LongPsdu is = cc
of_words (TornCapture bytes) is = cc
of_words LongCapture is = cc
of_words (BadBit at) is = cc
of_words (BitCount have need) is = cc
of_words NoFrame is = cc
of_words (CutFrame start have need) is = cc
of_words ReadFault is = cc
of_words WriteFault is = cc
of_words NoMemory is = cc
of_words (BadScript at) is = refl
of_words (BadList at) is = cc
of_words (LongList samples) is = cc
of_words (BadCost at) is = cc
of_words (CostCount have need) is = cc
of_words (CutAt start have need) is = cc
of_words (BadHeader start) is = cc
of_words (BadTaps at) is = refl

-- .. and the refusals of words have no other
pub of_asking : (refusal : Refusal) → step_of refusal ≡ asking → status_of refusal ≡ status.BadWords
of_asking Words is = refl
of_asking EmptyPsdu is = cc
of_asking LongPsdu is = cc
of_asking (TornCapture bytes) is = cc
of_asking LongCapture is = cc
of_asking (BadBit at) is = cc
of_asking (BitCount have need) is = cc
of_asking NoFrame is = cc
of_asking (CutFrame start have need) is = cc
of_asking ReadFault is = cc
of_asking WriteFault is = cc
of_asking NoMemory is = cc
of_asking (BadScript at) is = refl
of_asking (BadList at) is = cc
of_asking (LongList samples) is = cc
of_asking (BadCost at) is = cc
of_asking (CostCount have need) is = cc
of_asking (CutAt start have need) is = cc
of_asking (BadHeader start) is = cc
of_asking (BadTaps at) is = refl

-- no refusal has the status of a run that answered
pub no_refusal_is_ok : (refusal : Refusal) → status_of refusal ≡ status.Ok → ⊥
no_refusal_is_ok refusal is =
    elim (kinds refusal) [
      | inl decided ↦ subst IsDecided is decided
      | inr (inl fault) ↦ cc
      | inr (inr (inl fault)) ↦ cc
      | inr (inr (inr want)) ↦ cc
    ]
