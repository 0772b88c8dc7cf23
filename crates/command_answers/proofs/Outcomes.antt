-- The outcome of words and bytes: there is one, and no other.
use Rattle.std.proofs.Common.{◌≡◌, ◌≢◌, ◌⊎◌, inl, inr, Result, Ok, Err, ℕ, List, [], ◌∷◌, Option, Some, None, refl, sym, ap, subst, ◌∙◌}
use Rattle.std.specs.Option.{IfSome}
use Rattle.capture_files.specs.Captures.{samples_in}
use Rattle.finding_lines.specs.Lines.{text_of_reports}
use Rattle.fixed_complex.specs.declared.Sample.{Sample}
use Rattle.capture_hearing.specs.Received.{received_of}
use Rattle.frame_findings.specs.declared.Cut.{Cut}
use Rattle.frame_findings.specs.declared.Heard.{Heard}
use Rattle.frame_findings.specs.Laws.{OneFindings, OneReports, SomeFindings, SomeReports}
use Rattle.command_answers.specs.Drilling.{HasDrilled}
use Rattle.command_answers.specs.Receiving.{HasReceived, HasReports, outcome_of}
use Rattle.command_answers.specs.Starting.{HasFrameAt, outcome_at}
use Rattle.frame_reader.specs.Decisions.{decisions_by, plain_decisions}
use Rattle.frames_turned.specs.Deciding.{phase_decided}
use Rattle.frame_starts.specs.declared.AtFault.{AtFault}
use Rattle.frame_starts.specs.declared.AtFault.TheVariants as fault
use Rattle.rate_table.specs.declared.Rate.{Rate}
use Rattle.frame_starts.specs.Laws.{OneFrameAt, SomeFrameAt}
use Rattle.frame_drills.proofs.Back.{one_summary, some_summary}
use Rattle.frame_drills.specs.Summaries.{text_of_summary}
use Rattle.frame_fields.specs.Frames.{sent_bytes}
use Rattle.frame_fields.specs.Laws.{OneField, SomeField}
use Rattle.soft_trellis.specs.Laws.{OneSoftField, SomeSoftField}
use Rattle.report_lines.proofs.ByKind.{of_words as by_status}
use Rattle.report_lines.specs.declared.Refusal.{Refusal}
use Rattle.report_lines.specs.declared.Refusal.TheVariants.{NoMemory}
use Rattle.report_lines.specs.Refusals.{IsDecided, answering, asking, status_of, step_of}
use Rattle.std.specs.Result.{IfErr, IfOk, result_err}
use Rattle.command_words.proofs.Asked.{asked_or_refused, nothing_asked, one_refusal, one_request}
use Rattle.command_words.specs.declared.Request.{Request}
use Rattle.command_words.specs.declared.Request.TheVariants.{Bits, Decode, DecodeSoft, Send, SendList, Receive, ReceiveAt, ReceivePhase, Noise, Echo, Rotate, Inspect, Drill, Show}
use Rattle.command_words.specs.declared.Stage.TheVariants.{Kept}
use Rattle.command_words.specs.Asking.{AreRefusedFor, AskFor, command_of}
use Rattle.frame_stages.specs.Stages.{stage_text_of}
use Rattle.command_answers.specs.Answers.{echoed_bytes, noisy_bytes, rotated_bytes}
use Rattle.command_answers.specs.InOrder.{Answers, Outcome, Refuses, Writes}
use Rattle.command_answers.specs.declared.reading.Reading.{Reading}
use Rattle.command_answers.specs.Inputs.{IsAccepted, IsInput, OfInput, Reads, RefusesInput, reads}
use Rattle.command_answers.specs.Laws.{OneOutcome, SomeOutcome}
use Rattle.command_answers.specs.Outcome.{AnswerOf, AreRefused, RequestOutcome, HasOutcome, IsOutcome, of_request, of_words}
use Rattle.command_answers.proofs.OfList.{list_all, list_one, list_some}
use Rattle.command_answers.proofs.OfText.{decode_all, decode_one, decode_some, soft_all, soft_one, soft_some}
use Rattle.command_answers.proofs.InOrder.{AllAre, AtLeastOne, AtMostOne, answers_all, answers_one, with_some}
use Rattle.command_answers.proofs.Inputs.{accepted_outcome, input_all, input_one, input_some, refused_outcome}

-- the text of reports
reports_some : SomeReports → (capture : List Sample) → AtLeastOne (Answers (HasReports capture))
reports_some some capture =
    let reports = some capture in
    with_some (HasReports capture) (λ answer outcome. outcome ≡ Writes answer) (text_of_reports reports.0) (reports.0, reports.1, refl) (Writes (text_of_reports reports.0), refl)

reports_one : OneReports → (capture : List Sample) → AtMostOne (Answers (HasReports capture))
reports_one one capture =
    answers_one (HasReports capture) (λ x y has has'. has.2 ∙ ap text_of_reports (one capture has.0 has'.0 has.1 has'.1) ∙ sym has'.2)

-- what is received of a capture
received_some : SomeFindings → (capture : List Sample) → AtLeastOne (HasReceived capture)
received_some some capture =
    let found = some capture in (outcome_of (received_of found.0 found.1.0), (found.0, found.1.0, found.1.1, refl))

received_one : OneFindings → (capture : List Sample) → AtMostOne (HasReceived capture)
received_one one capture a b (heard, cut, found, is) (heard', cut', found', is') =
    let same = one capture heard heard' cut cut' found found' in
    is ∙ ap (λ frames. outcome_of (received_of frames cut)) same.0 ∙ ap (λ end. outcome_of (received_of heard' end)) same.1 ∙ sym is'

-- what the frame at a start comes to
frame_some : SomeFrameAt → (decisions : List Sample → Rate → ℕ → List ℕ) (start : ℕ) (capture : List Sample) → AtLeastOne (HasFrameAt decisions start capture)
frame_some some decisions start capture = let answer = some decisions capture start in (outcome_at answer.0, (answer.0, answer.1, refl))

frame_one : OneFrameAt → (decisions : List Sample → Rate → ℕ → List ℕ) (start : ℕ) (capture : List Sample) → AtMostOne (HasFrameAt decisions start capture)
frame_one one decisions start capture a b (answer, frame, is) (answer', frame', is') =
    is ∙ ap outcome_at (one decisions capture start answer answer' frame frame') ∙ sym is'

-- what a drill comes to
drill_some : (count : ℕ) → AtLeastOne (Answers (HasDrilled count))
drill_some count =
    let summary = some_summary count in
    with_some (HasDrilled count) (λ answer outcome. outcome ≡ Writes answer) (text_of_summary summary.0) (summary.0, summary.1, refl) (Writes (text_of_summary summary.0), refl)

drill_one : (count : ℕ) → AtMostOne (Answers (HasDrilled count))
drill_one count =
    answers_one (HasDrilled count) (λ x y has has'. has.2 ∙ ap text_of_summary (one_summary count has.0 has'.0 has.1 has'.1) ∙ sym has'.2)

-- what is found of an input is there, by the laws of the crates below
pub record SomeFound : Type 0 where
  pub field : SomeField
  pub soft : SomeSoftField
  pub reports : SomeReports
  pub findings : SomeFindings
  pub frame : SomeFrameAt

-- .. and is one
pub record OneFound : Type 0 where
  pub field : OneField
  pub soft : OneSoftField
  pub reports : OneReports
  pub findings : OneFindings
  pub frame : OneFrameAt

answer_some : SomeFound → (request : Request) (read : List ℕ) → AtLeastOne (AnswerOf request read)
answer_some some (Bits rate seed) read = (Writes (stage_text_of Kept rate seed read), refl)
answer_some some (Decode rate octets) read = decode_some some.field rate octets read
answer_some some (DecodeSoft rate octets) read = soft_some some.soft rate octets read
answer_some some (Send rate seed) read = (Writes (sent_bytes rate seed read), refl)
answer_some some (Noise items) read = (Writes (noisy_bytes items read), refl)
answer_some some SendList read = list_some read
answer_some some (Echo pairs) read = (Writes (echoed_bytes pairs read), refl)
answer_some some (Rotate start step) read = (Writes (rotated_bytes start step read), refl)
answer_some some Receive read = received_some some.findings (samples_in read)
answer_some some (ReceiveAt start) read = frame_some some.frame plain_decisions start (samples_in read)
answer_some some (ReceivePhase start) read = frame_some some.frame (decisions_by phase_decided) start (samples_in read)
answer_some some Inspect read = reports_some some.reports (samples_in read)
answer_some some (Drill count) read = drill_some count
answer_some some (Show stage rate seed) read = (Writes (stage_text_of stage rate seed read), refl)

answer_one : OneFound → (request : Request) (read : List ℕ) → AtMostOne (AnswerOf request read)
answer_one one (Bits rate seed) read a b is is' = is ∙ sym is'
answer_one one (Decode rate octets) read a b has has' = decode_one one.field rate octets read a b has has'
answer_one one (DecodeSoft rate octets) read a b has has' = soft_one one.soft rate octets read a b has has'
answer_one one (Send rate seed) read a b is is' = is ∙ sym is'
answer_one one (Noise items) read a b is is' = is ∙ sym is'
answer_one one SendList read a b has has' = list_one read a b has has'
answer_one one (Echo pairs) read a b is is' = is ∙ sym is'
answer_one one (Rotate start step) read a b is is' = is ∙ sym is'
answer_one one Receive read a b has has' = received_one one.findings (samples_in read) a b has has'
answer_one one (ReceiveAt start) read a b has has' = frame_one one.frame plain_decisions start (samples_in read) a b has has'
answer_one one (ReceivePhase start) read a b has has' = frame_one one.frame (decisions_by phase_decided) start (samples_in read) a b has has'
answer_one one Inspect read a b has has' = reports_one one.reports (samples_in read) a b has has'
answer_one one (Drill count) read a b has has' = drill_one count a b has has'
answer_one one (Show stage rate seed) read a b is is' = is ∙ sym is'

-- an outcome isn't a refusal of the words
abbrev IsNoWord : Outcome → Type 0
IsNoWord (Writes answer) = Unit {0}
IsNoWord (Refuses refusal) = step_of refusal ≢ asking

received_is_no_word : (heard : List Heard) (cut : Option Cut) → IsNoWord (outcome_of (received_of heard cut))
received_is_no_word [] None = λ asks. cc
received_is_no_word [] (Some cut) = λ asks. cc
received_is_no_word (first ∷ heard) cut = tt

frame_is_no_word : (answer : Result Heard AtFault) → IsNoWord (outcome_at answer)
frame_is_no_word (Ok heard) = tt
frame_is_no_word (Err (fault.CutAt start have need)) = λ asks. cc
frame_is_no_word (Err (fault.BadHeader start)) = λ asks. cc
frame_is_no_word (Err (fault.NoMemory want)) = λ asks. cc

answer_is_no_word : (request : Request) (read : List ℕ) → AllAre IsNoWord (AnswerOf request read)
answer_is_no_word (Bits rate seed) read outcome is = rw is tt
answer_is_no_word (Decode rate octets) read outcome has = decode_all IsNoWord rate octets read (λ refusal at asks. cc) (λ answer. tt) outcome has
answer_is_no_word (DecodeSoft rate octets) read outcome has = soft_all IsNoWord rate octets read (λ refusal at asks. cc) (λ answer. tt) outcome has
answer_is_no_word (Send rate seed) read outcome is = rw is tt
answer_is_no_word (Noise items) read outcome is = rw is tt
answer_is_no_word SendList read outcome has = list_all IsNoWord read (λ refusal at asks. cc) (λ answer. tt) outcome has
answer_is_no_word (Echo pairs) read outcome is = rw is tt
answer_is_no_word (Rotate start step) read outcome is = rw is tt
answer_is_no_word Receive read outcome (heard, cut, found, is) = rw is (received_is_no_word heard cut)
answer_is_no_word (ReceiveAt start) read outcome (answer, frame, is) = rw is (frame_is_no_word answer)
answer_is_no_word (ReceivePhase start) read outcome (answer, frame, is) = rw is (frame_is_no_word answer)
answer_is_no_word Inspect read outcome has = answers_all IsNoWord (HasReports (samples_in read)) (λ answer. tt) outcome has
answer_is_no_word (Drill count) read outcome has = answers_all IsNoWord (HasDrilled count) (λ answer. tt) outcome has
answer_is_no_word (Show stage rate seed) read outcome is = rw is tt

-- the same with the refusals of the input
request_some : SomeFound → (request : Request) (bytes : List ℕ) → AtLeastOne (RequestOutcome request bytes)
request_some some request bytes = input_some (reads (command_of request)) (AnswerOf request) bytes (answer_some some request)

request_one : OneFound → (request : Request) (bytes : List ℕ) → AtMostOne (RequestOutcome request bytes)
request_one one request bytes = input_one (reads (command_of request)) (AnswerOf request) bytes (answer_one one request)

request_is_no_word : (request : Request) (bytes : List ℕ) → AllAre IsNoWord (RequestOutcome request bytes)
request_is_no_word request bytes = input_all IsNoWord (reads (command_of request)) (AnswerOf request) bytes (λ refusal at asks. cc) (answer_is_no_word request)

-- words and bytes have an outcome
pub some_outcome : SomeFound → SomeOutcome
some_outcome some words bytes =
    elim (asked_or_refused words) [
      | inl asked ↦ let of_it = request_some some asked.0 bytes in (of_it.0, of_request asked.0 asked.1 of_it.1)
      | inr why ↦ (Refuses why.0, of_words why.0 why.1 refl)
    ]

-- .. and no other
pub only_outcome : OneFound → OneOutcome
only_outcome one words bytes a b (of_request request asks has) (of_request other asks' has') =
    let same = one_request words other request asks' asks in
    request_one one request bytes a b has (let P : Request → Type 0 = λ asked. RequestOutcome asked bytes b in subst P same has')
only_outcome one words bytes a b (of_request request asks has) (of_words refusal why is) = absurd (nothing_asked words refusal why request asks)
only_outcome one words bytes a b (of_words refusal why is) (of_request request asks has) = absurd (nothing_asked words refusal why request asks)
only_outcome one words bytes a b (of_words refusal why is) (of_words refusal' why' is') = is ∙ ap Refuses (one_refusal words refusal refusal' why why') ∙ sym is'

-- words that are refused whatever the input holds are refused for this
pub words_are_refused : (words : List (List ℕ)) → AreRefused words → (refusal : Refusal) × AreRefusedFor words refusal
words_are_refused words (refusal, cause) = why (cause.1 [])
  where
    why : HasOutcome words [] (Refuses refusal) → (refusal : Refusal) × AreRefusedFor words refusal
    why (of_request request asks has) = absurd (request_is_no_word request [] (Refuses refusal) has (by_status refusal cause.0))
    why (of_words other cause' same) = (other, cause')

-- words that are refused have their outcome
pub words_refused : (words : List (List ℕ)) (left : Option (List ℕ)) (refusal : Refusal) → AreRefusedFor words refusal → IsOutcome words left (Refuses refusal)
words_refused words None refusal why = tt
words_refused words (Some bytes) refusal why = of_words refusal why refl

-- the outcome of a request and what a source tells is that of the words
pub request_outcome : (words : List (List ℕ)) (left : Option (List ℕ)) (request : Request) (outcome : Outcome) → AskFor words request
    → IfSome left (λ bytes. RequestOutcome request bytes outcome) → IsOutcome words left outcome
request_outcome words None request outcome asks has = tt
request_outcome words (Some bytes) request outcome asks has = of_request request asks has

-- .. of what was read of an input which a source tells
pub read_outcome : (left : Option (List ℕ)) (request : Request) (kind : Reading) (read text : List ℕ) (outcome : Outcome) → kind ≡ reads (command_of request) → text ≡ read
    → IfSome left (IsInput kind read) → IsAccepted kind read → AnswerOf request text outcome → IfSome left (λ bytes. RequestOutcome request bytes outcome)
read_outcome None request kind read text outcome of_it same is accepted has = tt
read_outcome (Some bytes) request kind read text outcome of_it same is accepted has =
    subst (λ k. OfInput k (AnswerOf request) bytes outcome) of_it (accepted_outcome kind (AnswerOf request) read bytes outcome is accepted
    (subst (λ list. AnswerOf request list outcome) same has))

-- .. and where the input alone is refused
pub refused_input : (left : Option (List ℕ)) (request : Request) (refusal : Refusal) → IfSome left (RefusesInput (reads (command_of request)) refusal)
    → IfSome left (λ bytes. RequestOutcome request bytes (Refuses refusal))
refused_input None request refusal has = tt
refused_input (Some bytes) request refusal has = refused_outcome (reads (command_of request)) (AnswerOf request) bytes refusal has

-- .. as the answer of what was read says it
pub read_ok : {T E : Type 0} (left : Option (List ℕ)) (request : Request) (kind : Reading) (read text : List ℕ) (result : Result T E) (bytes_of : T → List ℕ) → kind ≡ reads (command_of request)
    → text ≡ read → IfSome left (IsInput kind read) → IsAccepted kind read → IfOk result (λ answer. AnswerOf request text (Writes (bytes_of answer)))
    → IfOk result (λ answer. IfSome left (λ bytes. RequestOutcome request bytes (Writes (bytes_of answer))))
read_ok left request kind read text (Err fault) bytes_of of_it same is accepted has = tt
read_ok left request kind read text (Ok answer) bytes_of of_it same is accepted has = read_outcome left request kind read text _ of_it same is accepted has

pub read_err : {T : Type 0} (left : Option (List ℕ)) (request : Request) (kind : Reading) (read text : List ℕ) (result : Result T Refusal) → kind ≡ reads (command_of request) → text ≡ read
    → IfSome left (IsInput kind read) → IsAccepted kind read → IfErr result (λ refusal. (refusal ≡ NoMemory) ⊎ ((step_of refusal ≡ answering) × AnswerOf request text (Refuses refusal)))
    → IfErr result (λ refusal. IsDecided (status_of refusal) → IfSome left (λ bytes. RequestOutcome request bytes (Refuses refusal)))
read_err left request kind read text (Ok answer) of_it same is accepted has = tt
read_err left request kind read text (Err refusal) of_it same is accepted (inl want) = λ decided. absurd (rw want at decided)
read_err left request kind read text (Err refusal) of_it same is accepted (inr (at, has)) = λ decided. read_outcome left request kind read text _ of_it same is accepted has

-- what a call that reads leaves of the source, where a later step is refused
pub reads_on : {T : Type 0} (kind : Reading) (request : Request) (text : List ℕ) (before after : Option (List ℕ)) (faults faults' : ℕ) (result : Result T Refusal) → kind ≡ reads (command_of request)
    → Reads kind before after faults faults' None → IfErr result (λ refusal. (refusal ≡ NoMemory) ⊎ ((step_of refusal ≡ answering) × AnswerOf request text (Refuses refusal)))
    → Reads (reads (command_of request)) before after faults faults' (result_err result)
reads_on kind request text before after faults faults' (Ok answer) of_it has why = rw (sym of_it) has
reads_on kind request text before after faults faults' (Err refusal) of_it has why = rw (sym of_it) (record {
  end = λ past to_end. has.end tt to_end;
  at_most = has.at_most;
  to_limit = λ is. elim why [ inl want ↦ cc | inr at ↦ let is_at = at.0 in cc ];
  to_input_limit = λ is. elim why [ inl want ↦ cc | inr at ↦ let is_at = at.0 in cc ];
  fault = λ is. elim why [ inl want ↦ cc | inr at ↦ let is_at = at.0 in cc ];
  fault_within = λ is. elim why [ inl want ↦ cc | inr at ↦ let is_at = at.0 in cc ];
})
