-- Outcomes of inputs.
use Rattle.std.proofs.Common.{◌≡◌, ◌<◌, ◌≤◌, ◌⊎◌, inl, inr, ℕ, ◌+◌, ◌%◌, List, [], ◌++◌, length, length-append, Option, Some, None, Result, Ok, Err, Vec, Global, vec_len, ◌^◌, refl, sym, ap, ◌∙◌, subst, arith}
use Rattle.std.proofs.lemmas.Bool.{cases_eq, cases_lt}
use Rattle.std.specs.Option.{IfSome}
use Rattle.std.specs.Result.{IfErr}
use Rattle.capture_files.specs.Captures.{IsTorn, bytes_of_samples}
use Rattle.capture_files.proofs.Bytes.{length-bytes_of_samples}
use Rattle.capture_files.specs.declared.CaptureFault.{CaptureFault}
use Rattle.capture_files.specs.declared.CaptureFault.TheVariants as capture
use Rattle.fixed_complex.specs.declared.Sample.{Sample}
use Rattle.modem_ports.specs.declared.whole.ReadAllFault.{ReadAllFault}
use Rattle.modem_ports.specs.declared.whole.ReadAllFault.TheVariants as fault
use Rattle.modem_ports.specs.Limits.{most_input}
use Rattle.modem_ports.specs.Told.{Gives, GivesExactly, IsAtEnd}
use Rattle.rate_table.specs.Symbols.{most_octets}
use Rattle.report_lines.specs.declared.Refusal.{Refusal}
use Rattle.report_lines.specs.declared.Refusal.TheVariants.{EmptyPsdu, LongPsdu, TornCapture, LongCapture}
use Rattle.report_lines.specs.Refusals.{IsDecided, reading, status_of, step_of}
use Rattle.command_answers.specs.declared.reading.Input.TheVariants as input
use Rattle.command_answers.specs.declared.reading.Reading.{Reading}
use Rattle.command_answers.specs.declared.reading.Reading.TheVariants.{Nothing, Psdu, Bytes, Capture}
use Rattle.command_answers.specs.InOrder.{Outcome, Refuses, passed, refused}
use Rattle.command_answers.specs.Inputs.{HasForm, IsAccepted, IsInput, OfInput, RefusesInput, refusal_of_capture_fault, refusal_of_fault}
use Rattle.command_answers.proofs.InOrder.{AllAre, AtLeastOne, AtMostOne, unless_all, unless_one, unless_some, unless_to}

-- a number is above a limit or not
pub over_or_not : (limit n : ℕ) → (limit < n) ⊎ ¬ (limit < n)
over_or_not limit n = elim (cases_lt limit n) [ inl over ↦ inl over | inr most ↦ inr (λ over. omega arith) ]

-- so many bytes are torn samples or whole ones
torn_or_not : (n : ℕ) → IsTorn n ⊎ ¬ IsTorn n
torn_or_not n = elim (cases_eq (n % 4) 0) [ inl whole ↦ inr (λ torn. torn whole) | inr torn ↦ inl torn ]

pub input_some : (kind : Reading) (Rest : List ℕ → Outcome → Type 0) (bytes : List ℕ) → ((read : List ℕ) → AtLeastOne (Rest read)) → AtLeastOne (OfInput kind Rest bytes)
input_some Nothing Rest bytes rest = rest []
input_some Psdu Rest bytes rest =
    unless_some _ _ _ (cases_eq (length bytes) 0) (λ fills. unless_some _ _ _ (over_or_not most_octets (length bytes)) (λ short. rest bytes))
input_some Bytes Rest bytes rest = unless_some _ _ _ (over_or_not most_input (length bytes)) (λ short. rest bytes)
input_some Capture Rest bytes rest =
    unless_some _ _ _ (over_or_not most_input (length bytes)) (λ short. unless_some _ _ _ (torn_or_not (length bytes)) (λ whole. rest bytes))

pub input_one : (kind : Reading) (Rest : List ℕ → Outcome → Type 0) (bytes : List ℕ) → ((read : List ℕ) → AtMostOne (Rest read)) → AtMostOne (OfInput kind Rest bytes)
input_one Nothing Rest bytes one = one []
input_one Psdu Rest bytes one = unless_one _ _ _ (λ fills. unless_one _ _ _ (λ short. one bytes))
input_one Bytes Rest bytes one = unless_one _ _ _ (λ short. one bytes)
input_one Capture Rest bytes one = unless_one _ _ _ (λ short. unless_one _ _ _ (λ whole. one bytes))

pub input_all : (Good : Outcome → Type 0) (kind : Reading) (Rest : List ℕ → Outcome → Type 0) (bytes : List ℕ)
    → ((refusal : Refusal) → step_of refusal ≡ reading → Good (Refuses refusal)) → ((read : List ℕ) → AllAre Good (Rest read)) → AllAre Good (OfInput kind Rest bytes)
input_all Good Nothing Rest bytes good rest = rest []
input_all Good Psdu Rest bytes good rest = unless_all Good _ _ _ (good EmptyPsdu refl) (unless_all Good _ _ _ (good LongPsdu refl) (rest bytes))
input_all Good Bytes Rest bytes good rest = unless_all Good _ _ _ (good LongCapture refl) (rest bytes)
input_all Good Capture Rest bytes good rest =
    unless_all Good _ _ _ (good LongCapture refl) (unless_all Good _ _ _ (good (TornCapture (length bytes)) refl) (rest bytes))

-- the outcome of an input that is accepted is that of what was read
pub accepted_outcome : (kind : Reading) (Rest : List ℕ → Outcome → Type 0) (read bytes : List ℕ) (outcome : Outcome) → IsInput kind read bytes → IsAccepted kind read
    → Rest read outcome → OfInput kind Rest bytes outcome
accepted_outcome Nothing Rest read bytes outcome is accepted has = subst (λ list. Rest list outcome) is has
accepted_outcome Psdu Rest read bytes outcome is accepted has =
    subst (λ list. OfInput Psdu Rest list outcome) is (passed (λ none. omega (arith, none, accepted.0)) (passed (λ long. omega (arith, long, accepted.1)) has))
accepted_outcome Bytes Rest read bytes outcome is accepted has =
    subst (λ list. OfInput Bytes Rest list outcome) is (passed (λ long. omega (arith, long, accepted)) has)
accepted_outcome Capture Rest read bytes outcome is accepted has =
    subst (λ list. OfInput Capture Rest list outcome) is (passed (λ long. omega (arith, long, accepted.0)) (passed (λ torn. torn accepted.1) has))

-- the outcome of an input that is refused, whatever is made of it
pub refused_outcome : (kind : Reading) (Rest : List ℕ → Outcome → Type 0) (bytes : List ℕ) (refusal : Refusal) → RefusesInput kind refusal bytes → OfInput kind Rest bytes (Refuses refusal)
refused_outcome Nothing Rest bytes refusal never = absurd never
refused_outcome Psdu Rest bytes refusal is = unless_to _ _ _ _ _ (unless_to _ _ _ _ _ (λ never. absurd never)) is
refused_outcome Bytes Rest bytes refusal is = unless_to _ _ _ _ _ (λ never. absurd never) is
refused_outcome Capture Rest bytes refusal is = unless_to _ _ _ _ _ (unless_to _ _ _ _ _ (λ never. absurd never)) is

-- an input of which one byte more than a limit was given is over the limit
over_limit : (limit : ℕ) (left left' : Option (List ℕ)) → GivesExactly (limit + 1) left left' → IfSome left (λ bytes. limit < length bytes)
over_limit limit None left' gives = tt
over_limit limit (Some bytes) None gives = absurd gives.2
over_limit limit (Some bytes) (Some after) gives = omega (arith, gives.1, ap length gives.2 ∙ length-append gives.0 after)

-- so it is refused, where it is known why it wasn't read whole
pub psdu_not_whole : (left left' : Option (List ℕ)) (why : ReadAllFault) → (why ≡ fault.Long → GivesExactly (most_octets + 1) left left')
    → IsDecided (status_of (refusal_of_fault LongPsdu why)) → IfSome left (RefusesInput Psdu (refusal_of_fault LongPsdu why))
psdu_not_whole None left' why long decided = tt
psdu_not_whole (Some bytes) left' fault.Long long decided =
    let over = over_limit most_octets (Some bytes) left' (long refl) in passed (λ none. omega (arith, over, none)) (refused over refl)
psdu_not_whole (Some bytes) left' fault.Failed long decided = absurd decided
psdu_not_whole (Some bytes) left' (fault.NoMemory want) long decided = absurd decided

pub bytes_not_whole : (left left' : Option (List ℕ)) (why : ReadAllFault) → (why ≡ fault.Long → GivesExactly (most_input + 1) left left')
    → IsDecided (status_of (refusal_of_fault LongCapture why)) → IfSome left (RefusesInput Bytes (refusal_of_fault LongCapture why))
bytes_not_whole None left' why long decided = tt
bytes_not_whole (Some bytes) left' fault.Long long decided = refused (over_limit most_input (Some bytes) left' (long refl)) refl
bytes_not_whole (Some bytes) left' fault.Failed long decided = absurd decided
bytes_not_whole (Some bytes) left' (fault.NoMemory want) long decided = absurd decided

-- what was given of a source up to its end is all that was left of it
gave_all : (bytes read after : List ℕ) → bytes ≡ read ++ after → length after ≡ 0 → length bytes ≡ length read
gave_all bytes read after gives end = ap length gives ∙ length-append read after ∙ omega (arith, end)

-- a PSDU with no octet is refused
pub psdu_is_empty : {A : Type 0} (left left' : Option (List ℕ)) (psdu : List ℕ) (result : Result A Refusal) → Gives left psdu left' → IsAtEnd left'
    → IfErr result (λ refusal. (refusal ≡ EmptyPsdu) × (length psdu ≡ 0)) → IfErr result (λ refusal. IsDecided (status_of refusal) → IfSome left (RefusesInput Psdu refusal))
psdu_is_empty left left' psdu (Ok whole) gives end empty = tt
psdu_is_empty None left' psdu (Err refusal) gives end empty = λ decided. tt
psdu_is_empty (Some bytes) None psdu (Err refusal) gives end empty = absurd gives
psdu_is_empty (Some bytes) (Some after) psdu (Err refusal) gives end empty = λ decided.
    refused (gave_all bytes psdu after gives (ap length end) ∙ empty.1) (ap Refuses empty.0)

-- so many bytes that were given of a source up to its end are all that was left of it
gave_exactly : (bytes after : List ℕ) (count : ℕ) → GivesExactly count (Some bytes) (Some after) → length after ≡ 0 → length bytes ≡ count
gave_exactly bytes after count gives end = gave_all bytes gives.0 after gives.2 end ∙ gives.1

-- a capture is refused, where it is known why it wasn't read whole
pub capture_not_whole : (left left' : Option (List ℕ)) (why : CaptureFault) → (why ≡ capture.Long → GivesExactly (most_input + 1) left left')
    → ((bytes : ℕ) → why ≡ capture.Torn bytes → IsTorn bytes × (bytes ≤ most_input) × GivesExactly bytes left left' × IsAtEnd left')
    → IsDecided (status_of (refusal_of_capture_fault why)) → IfSome left (RefusesInput Capture (refusal_of_capture_fault why))
capture_not_whole None left' why long torn decided = tt
capture_not_whole (Some bytes) left' capture.Long long torn decided = refused (over_limit most_input (Some bytes) left' (long refl)) refl
capture_not_whole (Some bytes) None (capture.Torn count) long torn decided = absurd (torn count refl).2.2
capture_not_whole (Some bytes) (Some after) (capture.Torn count) long torn decided =
    let is = torn count refl in
    let same : length bytes ≡ count = gave_exactly bytes after count is.2 (ap length is.3) in
    passed (λ over. omega (arith, over, same, is.1)) (refused (rw same is.0) (ap (λ n. Refuses (TornCapture n)) (sym same)))
capture_not_whole (Some bytes) left' capture.Failed long torn decided = absurd decided
capture_not_whole (Some bytes) left' (capture.NoMemory want) long torn decided = absurd decided

-- samples that were read are few
pub few_samples : (kind : Reading) (samples : Vec Sample Global) → HasForm kind (input.Samples samples) → IsAccepted kind (bytes_of_samples samples.items) → vec_len samples ≤ 2 ^ 24
few_samples Nothing samples form accepted = absurd form
few_samples Psdu samples form accepted = absurd form
few_samples Bytes samples form accepted = absurd form
few_samples Capture samples form accepted = omega (arith, accepted.0, samples.ok.0, length-bytes_of_samples samples.items)
