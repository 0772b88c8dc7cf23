-- What is received of a whole capture.
use Rattle.std.proofs.Common.{◌≡◌, ℕ, ◌∙◌, List, [], ◌∷◌, length, refl, sym, arith}
use Rattle.std.specs.Prelude.{Option, Some, None}
use Rattle.fixed_complex.specs.declared.Sample.{Sample}
use Rattle.frame_findings.specs.declared.Cut.{Cut}
use Rattle.frame_findings.specs.declared.Heard.{Heard}
use Rattle.frame_findings.specs.Walk.{AreFindings}
use Rattle.frame_receiver.specs.declared.reception.ReceiveFault.{ReceiveFault}
use Rattle.frame_receiver.specs.declared.reception.ReceiveFault.TheVariants.{CutFrame, NoFrame}
use Rattle.frame_receiver.specs.Faults.{fault_of}

-- a list without frames
pub no_frames : (heard : List Heard) → length heard ≡ 0 → heard ≡ []
no_frames [] none = refl
no_frames (first ∷ heard) none = absurd (omega arith)

-- no finding
pub nothing_found : (capture : List Sample) (cut : Option Cut) (fault : ReceiveFault) → fault ≡ fault_of cut → fault ≡ NoFrame → AreFindings capture [] cut → AreFindings capture [] None
nothing_found capture None fault made is findings = findings
nothing_found capture (Some cut) fault made is findings = let same = sym made ∙ is in absurd (cc)

-- a cut alone
pub cut_found : (capture : List Sample) (cut : Option Cut) (fault : ReceiveFault) (start have need : ℕ) → fault ≡ fault_of cut → fault ≡ CutFrame start have need
    → AreFindings capture [] cut → AreFindings capture [] (Some (record { start = start; have = have; need = need }))
cut_found capture None fault start have need made is findings = let same = sym made ∙ is in absurd (cc)
cut_found capture (Some cut) fault start have need made is findings =
    let same : CutFrame cut.start cut.have cut.need ≡ CutFrame start have need = sym made ∙ is in
    let first : cut.start ≡ start = cc in
    let second : cut.have ≡ have = cc in
    let third : cut.need ≡ need = cc in
    rw (← first, ← second, ← third) findings
