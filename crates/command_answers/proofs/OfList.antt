-- The outcome of `send-list`.
use Rattle.std.proofs.Common.{◌≡◌, ◌<◌, ◌≤◌, inl, inr, ℕ, List, length, refl, sym, ap, ◌∙◌, subst, arith}
use Rattle.list_texts.specs.Lists.{IsList, SaysList}
use Rattle.list_texts.specs.declared.Entry.{Entry}
use Rattle.list_texts.proofs.Decisions.{list_decided}
use Rattle.list_texts.proofs.Sames.{one_list}
use Rattle.report_lines.specs.declared.Refusal.{Refusal}
use Rattle.report_lines.specs.declared.Refusal.TheVariants.{BadList, LongList}
use Rattle.report_lines.specs.Refusals.{answering, step_of}
use Rattle.send_lists.specs.Sent.{IsTooLong, most_samples, samples_of_list}
use Rattle.word_grammar.specs.Places.{IsBadAt}
use Rattle.word_grammar.proofs.Places.{none_bad, one_place}
use Rattle.command_answers.specs.InOrder.{Outcome, Refuses, Writes, passed, passed_all, refused, refused_for, with_it}
use Rattle.command_answers.specs.Listing.{ListOutcome, OfEntries, bytes_of_list}
use Rattle.command_answers.proofs.InOrder.{AllAre, AtLeastOne, AtMostOne, unless_all, unless_one, unless_some, unless_some_all, unless_some_one, with_all, with_one}
use Rattle.command_answers.proofs.Inputs.{over_or_not}

-- the outcome of a list that a text says
pub of_list : (text : List ℕ) (entries : List Entry) (outcome : Outcome) → SaysList entries text → OfEntries entries outcome → ListOutcome text outcome
of_list text entries outcome says has = passed_all (λ at bad. none_bad IsList text at (entries, says) bad) (with_it entries says has)

entries_some : (entries : List Entry) → AtLeastOne (OfEntries entries)
entries_some entries =
    unless_some _ _ _ (over_or_not most_samples (length (samples_of_list entries))) (λ short. (Writes (bytes_of_list entries), refl))

pub list_some : (text : List ℕ) → AtLeastOne (ListOutcome text)
list_some text =
    elim (list_decided text) [
      | inr bad ↦ (Refuses (BadList bad.0), refused_for bad.0 bad.1 refl)
      | inl list ↦ let some = entries_some list.0 in (some.0, of_list text list.0 some.0 list.1 some.1)
    ]

pub list_one : (text : List ℕ) → AtMostOne (ListOutcome text)
list_one text =
    unless_some_one (IsBadAt IsList text) (λ at. BadList at) _ (λ a b p q. one_place IsList text a b p q)
    (with_one (λ entries. SaysList entries text) OfEntries (λ a b p q. one_list a b text p q) (λ entries says. unless_one _ _ _ (λ short a b is is'. is ∙ sym is')))

pub list_all : (Good : Outcome → Type 0) (text : List ℕ) → ((refusal : Refusal) → step_of refusal ≡ answering → Good (Refuses refusal)) → ((answer : List ℕ) → Good (Writes answer))
    → AllAre Good (ListOutcome text)
list_all Good text refuses writes =
    unless_some_all (IsBadAt IsList text) Good (λ at. BadList at) _ (λ at. refuses (BadList at) refl)
    (with_all (λ entries. SaysList entries text) Good OfEntries (λ entries says.
    unless_all Good _ _ _ (refuses (LongList (length (samples_of_list entries))) refl) (λ outcome is. subst Good (sym is) (writes (bytes_of_list entries)))))

-- a text that is no list
pub bad_list : (text : List ℕ) (at : ℕ) → IsBadAt IsList text at → ListOutcome text (Refuses (BadList at))
bad_list text at bad = refused_for at bad refl

-- a list of too many samples
pub long_list : (text : List ℕ) (samples : ℕ) → IsTooLong text samples → ListOutcome text (Refuses (LongList samples))
long_list text samples h =
    of_list text h.entries (Refuses (LongList samples)) h.says
    (refused (subst (λ n. most_samples < n) h.count h.over) (ap (λ n. Refuses (LongList n)) h.count))

-- the samples of a list
pub short_list : (text : List ℕ) (entries : List Entry) → SaysList entries text → length (samples_of_list entries) ≤ most_samples → ListOutcome text (Writes (bytes_of_list entries))
short_list text entries says short =
    of_list text entries (Writes (bytes_of_list entries)) says (passed (λ over. omega (arith, over, short)) refl)
