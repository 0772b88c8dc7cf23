-- One frame that is sent and received.
use Rattle.std.proofs.Common.{◌≡◌, ℕ, ◌≤◌, List, [], ◌∷◌, ◌++◌, length, Option, Some, None, Result, Ok, Err, refl, sym, ◌∙◌, subst, append-nil, append_assoc, length-append, ◌≢◌, ◌+◌, arith}
use Rattle.std.specs.Prelude.{if◌then◌else◌}
use Rattle.std.specs.Option.{is_some}
use Rattle.std.specs.Result.{IfErr, IfOk, IsErrOf}
use Rattle.std.proofs.lemmas.List.Elements.{All-cons, All-nil}
use Rattle.bit_lists.specs.Bits.{AreOctets}
use Rattle.fixed_complex.specs.declared.Sample.{Sample}
use Rattle.frame_fields.specs.Frames.{sent_frame}
use Rattle.frame_findings.specs.Laws.{OneFindings}
use Rattle.frame_findings.specs.Walk.{AreFindings}
use Rattle.frame_findings.specs.declared.Cut.{Cut}
use Rattle.frame_findings.specs.declared.Heard.{Heard}
use Rattle.frame_findings.specs.declared.Reception.{Reception}
use Rattle.frame_receiver.specs.Receiving.{ReceiverView, Stands, frame_of, heard_with}
use Rattle.frame_receiver.specs.declared.receiver.Found.{Found}
use Rattle.frame_receiver.specs.declared.reception.ReceiveFault.{ReceiveFault}
use Rattle.frame_receiver.specs.declared.reception.ReceiveFault.TheVariants.{CutFrame, NoFrame}
use Rattle.frame_lists.specs.Items.{Item, frames_from, samples_of_items}
use Rattle.frame_lists.specs.Near.{SentFrame}
use Rattle.frames_in_noise.specs.Laws.{IsFrame, SentListIsHeard, heard_of}
use Rattle.ofdm_scrambler.specs.Sequence.{IsSeed}
use Rattle.rate_table.specs.Symbols.{IsLength}
use Rattle.rate_table.specs.declared.Rate.{Rate}

abbrev pub first_frame : Rate → ℕ → List ℕ → SentFrame
first_frame rate seed psdu = record { start = 0; rate = rate; seed = seed; psdu = psdu }

-- the findings of its samples are the frame, and no cut
pub one_is_heard : SentListIsHeard → (rate : Rate) (seed : ℕ) (psdu : List ℕ) (samples : List Sample) → IsSeed seed → IsLength (length psdu) → AreOctets psdu
    → samples ≡ sent_frame rate seed psdu → AreFindings samples (heard_of (first_frame rate seed psdu) ∷ []) None
unfolding samples_of_items frames_from
one_is_heard hears rate seed psdu samples good long octets are =
    let item : Item = record { gap = 0; rate = rate; seed = seed; psdu = psdu } in
    let frame = first_frame rate seed psdu in
    let heard = hears (item ∷ []) (omega arith) (All-nil (λ (item : Item). 16 ≤ item.gap)) (All-cons IsFrame frame [] (record { seed = good; long = long; octets = octets }) (All-nil IsFrame)) in
    subst (λ list. AreFindings list (heard_of frame ∷ []) None) (append-nil (sent_frame rate seed psdu) ∙ sym are) heard

-- .. and it has no others
pub nothing_else : OneFindings → (capture : List Sample) (frame : SentFrame) (heard : List Heard) (cut : Option Cut) → AreFindings capture (heard_of frame ∷ []) None
    → AreFindings capture heard cut → (heard ≡ heard_of frame ∷ []) × (cut ≡ None)
nothing_else one capture frame heard cut found other = one capture heard (heard_of frame ∷ []) cut None other found

pub all_heard : OneFindings → (capture : List Sample) (frame : SentFrame) (result : Result Reception ReceiveFault) → AreFindings capture (heard_of frame ∷ []) None
    → IfOk result (λ reception. AreFindings capture reception.heard reception.cut)
    → IfOk result (λ reception. (reception.heard ≡ heard_of frame ∷ []) × (reception.cut ≡ None))
all_heard one capture frame (Ok reception) found has = nothing_else one capture frame reception.heard reception.cut found has
all_heard one capture frame (Err fault) found has = tt

pub only_memory : OneFindings → (capture : List Sample) (frame : SentFrame) (result : Result Reception ReceiveFault) → AreFindings capture (heard_of frame ∷ []) None
    → (IsErrOf result NoFrame → AreFindings capture [] None)
    → ((start have need : ℕ) → IsErrOf result (CutFrame start have need) → AreFindings capture [] (Some (record { start = start; have = have; need = need })))
    → IfErr result (λ fault. (fault ≢ NoFrame) × ((start have need : ℕ) → fault ≢ CutFrame start have need))
only_memory one capture frame (Ok reception) found no_frame cut_frame = tt
only_memory one capture frame (Err fault) found no_frame cut_frame = (
  λ is.
      let none : [] ≡ heard_of frame ∷ [] = (nothing_else one capture frame [] None found (no_frame (rw is refl))).0 in
      absurd (cc),
  λ start have need is.
      let none : [] ≡ heard_of frame ∷ [] = (nothing_else one capture frame [] (Some (record { start = start; have = have; need = need })) found (cut_frame start have need (rw is refl))).0 in
      absurd (cc),
)

-- one sample more, and the frame that it makes whole, if it does
pub counted : (receiver : ReceiverView) (samples : List Sample) (heard more : List Heard) (found : Option Found) (psdu : List ℕ) (count after : ℕ) → count ≡ length more
    → after ≡ (if is_some found then count + 1 else count) → Stands receiver samples (heard_with (heard ++ more) found psdu)
    → (all : List Heard) × (after ≡ length all) × Stands receiver samples (heard ++ all)
counted receiver samples heard more None psdu count after is same stands = (more, same ∙ is, stands)
counted receiver samples heard more (Some found) psdu count after is same stands =
    (more ++ frame_of found psdu ∷ [], omega (arith, is, same, length-append more (frame_of found psdu ∷ [])), subst (Stands receiver samples) (append_assoc heard more (frame_of found psdu ∷ [])) stands)

pub few_counted : {A : Type 0} (found : Option A) (count after k : ℕ) → after ≡ (if is_some found then count + 1 else count) → count ≤ k → after ≤ k + 1
few_counted None count after k is few = omega (arith, is, few)
few_counted (Some frame) count after k is few = omega (arith, is, few)

pub heard_alone : (frame : Heard) (result : Result Reception ReceiveFault) → IfOk result (λ reception. (reception.heard ≡ frame ∷ []) × (reception.cut ≡ None))
    → IfOk result (λ reception. reception.heard ≡ frame ∷ [])
heard_alone frame (Ok reception) both = both.0
heard_alone frame (Err fault) both = tt

pub uncut : (frame : Heard) (result : Result Reception ReceiveFault) → IfOk result (λ reception. (reception.heard ≡ frame ∷ []) × (reception.cut ≡ None))
    → IfOk result (λ reception. reception.cut ≡ None)
uncut frame (Ok reception) both = both.1
uncut frame (Err fault) both = tt
