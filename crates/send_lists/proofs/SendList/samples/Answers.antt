use Rattle.std.proofs.Common.{◌≡◌, ◌+◌, ◌++◌, ◌∷◌, [], ℕ, List, drop, ap, sym, ◌∙◌, append_assoc, append-nil, subst}
use Rattle.std.proofs.lemmas.List.{drop_all}
use Rattle.fixed_complex.specs.declared.Sample.{Sample}
use Rattle.list_texts.specs.declared.Entry.{Entry}
use Rattle.frame_lists.specs.Near.{AreNear}
use Rattle.send_lists.specs.Sent.{MayBeSent, frames_of_list, samples_of_list}
use Rattle.send_lists.proofs.Samples.{no_samples, rest_samples}
use Rattle.send_lists.proofs.SendList.samples.Goals as goal

pub loop-entry-preserved : goal.loop-entry-preserved
loop-entry-preserved c =
    let entries : List Entry = c.as_slice-entry-items.result.now in
    let k : ℕ = c.loop-entry.entry-index in
    let entry : Entry = c.entry-item.result in
    let before : List Sample = c.loop-entry.samples.items in
    let behind : List Sample = samples_of_list (drop (k + 1) entries) in
    let here : samples_of_list (drop k entries) ≡ samples_of_list (entry ∷ []) ++ behind =
    rest_samples entries k entry c.loop-entry-test.true ∙ ap (λ (e : Entry). samples_of_list (e ∷ []) ++ behind) (sym c.entry-item.is) in
    ap (λ (s : List Sample). s ++ behind) c.in_ok-push_entry.ensures ∙ append_assoc before (samples_of_list (entry ∷ [])) behind ∙ ap (λ (s : List Sample). before ++ s) (sym here) ∙ c.loop-entry.invariant

pub returns-clause-samples : goal.returns-clause-samples
returns-clause-samples c =
    let entries : List Entry = c.as_slice-entry-items.result.now in
    let samples : List Sample = c.loop-entry.samples.items in
    let none : samples_of_list (drop c.loop-entry.entry-index entries) ≡ [] = ap samples_of_list (drop_all c.loop-entry.entry-index entries c.loop-entry-test.false) ∙ no_samples in
    sym (append-nil samples) ∙ ap (λ (s : List Sample). samples ++ s) (sym none) ∙ c.loop-entry.invariant ∙ ap samples_of_list c.as_slice-entry-items.ensures.value ∙ ap samples_of_list c.self.view_is

pub returns-clause-near : goal.returns-clause-near
returns-clause-near c =
    let may : MayBeSent c.args.self.now = subst MayBeSent c.self.view_is c.self.invariant.0 in
    subst (λ (s : List Sample). AreNear (λ _. 1) 0 s (frames_of_list c.args.self.now)) (sym (returns-clause-samples c)) (c.sent_lists_are_near.ensures c.args.self.now may)
