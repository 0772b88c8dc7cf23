-- What `receive` comes to.
use Rattle.std.proofs.Common.{ℕ, List, Option, Some, None, Result, Ok, Err, refl, ap, arith}
use Rattle.std.specs.Option.{IfSome}
use Rattle.capture_hearing.specs.Received.{IsReceived, long, torn, whole}
use Rattle.report_lines.specs.declared.Refusal.{Refusal}
use Rattle.report_lines.specs.Refusals.{IsDecided, status_of}
use Rattle.command_words.specs.declared.Request.TheVariants.{Receive}
use Rattle.command_answers.specs.InOrder.{Refuses, Writes, passed, refused}
use Rattle.command_answers.specs.Outcome.{RequestOutcome}
use Rattle.command_answers.specs.Receiving.{outcome_of}

-- what is received of bytes is the outcome of `receive`
received_outcome : (bytes : List ℕ) (answer : Result (List ℕ) Refusal) → IsReceived bytes answer → RequestOutcome Receive bytes (outcome_of answer)
received_outcome bytes answer (long over is) = rw is (refused over refl)
received_outcome bytes answer (torn most left is) = rw is (passed (λ over. omega (arith, over, most)) (refused left refl))
received_outcome bytes answer (whole most even heard cut found is) =
    passed (λ over. omega (arith, over, most)) (passed (λ left. left even) (heard, cut, found, ap outcome_of is))

-- .. of a source that tells them
pub received_text : (left : Option (List ℕ)) (text : List ℕ) → IfSome left (λ bytes. IsReceived bytes (Ok text)) → IfSome left (λ bytes. RequestOutcome Receive bytes (Writes text))
received_text None text is = tt
received_text (Some bytes) text is = received_outcome bytes (Ok text) is

pub received_refusal : (left : Option (List ℕ)) (refusal : Refusal) → (IsDecided (status_of refusal) → IfSome left (λ bytes. IsReceived bytes (Err refusal)))
    → IsDecided (status_of refusal) → IfSome left (λ bytes. RequestOutcome Receive bytes (Refuses refusal))
received_refusal None refusal is decided = tt
received_refusal (Some bytes) refusal is decided = received_outcome bytes (Err refusal) (is decided)
