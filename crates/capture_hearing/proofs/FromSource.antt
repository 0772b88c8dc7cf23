-- What was heard of a source.
use Rattle.std.proofs.Common.{◌≡◌, ◌⊎◌, inl, inr, ℕ, ◌+◌, ◌*◌, ◌/◌, ◌≤◌, List, [], ◌++◌, length, length-append, append-nil, Option, Some, None, Result, Ok, Err, refl, ap, ◌∙◌, arith}
use Rattle.std.specs.Option.{IfSome}
use Rattle.std.specs.Result.{IfErr, IfOk}
use Rattle.modem_ports.proofs.Pieces.{Gives-append}
use Rattle.modem_ports.specs.Limits.{most_input}
use Rattle.modem_ports.specs.Told.{Gives, GivesExactly, IsAtEnd}
use Rattle.report_lines.specs.declared.Refusal.{Refusal}
use Rattle.report_lines.specs.declared.Refusal.TheVariants.{LongCapture, ReadFault}
use Rattle.report_lines.specs.Refusals.{IsDecided, status_of}
use Rattle.capture_hearing.specs.Hearing.{HasHeard, HearingView}
use Rattle.capture_hearing.specs.Received.{IsReceived, long}
use Rattle.capture_hearing.specs.Sources.{HeardFrom}
use Rattle.capture_hearing.proofs.Ending.{bytes_count}

-- nothing was given yet
pub heard_none : (left : Option (List ℕ)) (h : HearingView) → HasHeard h [] → HeardFrom left left h
heard_none None h heard = ([], tt, heard)
heard_none (Some bytes) h heard = ([], refl, heard)

-- one piece more was given and heard
pub heard_more : (before between after : Option (List ℕ)) (h h' : HearingView) (piece slice : List ℕ) → HeardFrom before between h → Gives between piece after
    → ((bytes : List ℕ) → HasHeard h bytes → HasHeard h' (bytes ++ slice)) → slice ≡ piece → HeardFrom before after h'
heard_more before between after h h' piece slice heard gives hears same =
    (heard.0 ++ piece, Gives-append before between after heard.0 piece heard.1 gives, rw same at (hears heard.0 heard.2))

-- how many steps were spent on a part of what was left
pub heard_bound : (left left' : Option (List ℕ)) (h : HearingView) → HeardFrom left left' h → IfSome left (λ bytes. h.receiver.spent ≤ 32 * (length bytes / 4) + 512)
heard_bound None left' h heard = tt
heard_bound (Some bytes) None h heard = absurd heard.1
heard_bound (Some bytes) (Some after) h heard =
    omega (arith, heard.2.spent, bytes_count h heard.0 heard.2, ap length heard.1, length-append heard.0 after)

-- all that was left was heard, where nothing is left
pub heard_all : (left left' : Option (List ℕ)) (h : HearingView) → HeardFrom left left' h → IsAtEnd left' → IfSome left (λ bytes. HasHeard h bytes)
heard_all None left' h heard end = tt
heard_all (Some bytes) None h heard end = absurd heard.1
heard_all (Some bytes) (Some after) h heard end =
    let all : bytes ≡ heard.0 = heard.1 ∙ ap (λ (rest : List ℕ). heard.0 ++ rest) end ∙ append-nil heard.0 in
    rw all heard.2

-- what holds of the bytes that were heard holds of those that were left
pub told_ok : {T E : Type 0} (left : Option (List ℕ)) (h : HearingView) (result : Result T E) (Holds : List ℕ → T → Type 0) → IfSome left (λ bytes. HasHeard h bytes)
    → IfOk result (λ answer. (bytes : List ℕ) → HasHeard h bytes → Holds bytes answer) → IfOk result (λ answer. IfSome left (λ bytes. Holds bytes answer))
told_ok left h (Err fault) Holds heard is = tt
told_ok None h (Ok answer) Holds heard is = tt
told_ok (Some bytes) h (Ok answer) Holds heard is = is bytes heard

pub told_err : {T : Type 0} (left : Option (List ℕ)) (h : HearingView) (result : Result T Refusal) → IfSome left (λ bytes. HasHeard h bytes)
    → IfErr result (λ refusal. (bytes : List ℕ) → HasHeard h bytes → IsReceived bytes (Err refusal))
    → IfErr result (λ refusal. IsDecided (status_of refusal) → IfSome left (λ bytes. IsReceived bytes (Err refusal)))
told_err left h (Ok answer) heard is = tt
told_err None h (Err refusal) heard is = λ decided. tt
told_err (Some bytes) h (Err refusal) heard is = λ decided. is bytes heard

-- of a source that wasn't heard to its end, too many bytes were taken, or it failed
pub not_heard : (left left' : Option (List ℕ)) (refusal : Refusal) → (refusal ≡ LongCapture) ⊎ (refusal ≡ ReadFault) → (refusal ≡ LongCapture → GivesExactly (most_input + 1) left left')
    → IsDecided (status_of refusal) → IfSome left (λ bytes. IsReceived bytes (Err refusal))
not_heard None left' refusal cause gave decided = tt
not_heard (Some bytes) left' refusal (inr failed) gave decided = absurd (rw failed at decided)
not_heard (Some bytes) None refusal (inl is) gave decided = absurd ((gave is).2)
not_heard (Some bytes) (Some after) refusal (inl is) gave decided =
    let given = gave is in
    long (omega (arith, given.1, ap length given.2, length-append given.0 after)) (ap Err is)
