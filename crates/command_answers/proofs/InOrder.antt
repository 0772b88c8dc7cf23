-- Refusals in their order: some outcome, at most one, and what holds of all.
use Rattle.std.proofs.Common.{◌≡◌, ◌⊎◌, inl, inr, ℕ, List, refl, sym, ap, ◌∙◌, subst}
use Rattle.report_lines.specs.declared.Refusal.{Refusal}
use Rattle.command_answers.specs.InOrder.{Answers, Outcome, Refuses, Unless, UnlessSome, With, Writes, passed, passed_all, refused, refused_for, with_it}

-- there is an outcome; there is at most one; a property holds of all
abbrev pub AtLeastOne : (Outcome → Type 0) → Type 0
AtLeastOne Has = (outcome : Outcome) × Has outcome

abbrev pub AtMostOne : (Outcome → Type 0) → Type 0
AtMostOne Has = (a b : Outcome) → Has a → Has b → a ≡ b

abbrev pub AllAre : (Outcome → Type 0) → (Outcome → Type 0) → Type 0
AllAre Good Has = (outcome : Outcome) → Has outcome → Good outcome

pub unless_some : (P : Type 0) (refusal : Refusal) (Rest : Outcome → Type 0) → P ⊎ ¬ P → (¬ P → AtLeastOne Rest) → AtLeastOne (Unless P refusal Rest)
unless_some P refusal Rest (inl holds) rest = (Refuses refusal, refused holds refl)
unless_some P refusal Rest (inr fails) rest = let some = rest fails in (some.0, passed fails some.1)

pub unless_one : (P : Type 0) (refusal : Refusal) (Rest : Outcome → Type 0) → (¬ P → AtMostOne Rest) → AtMostOne (Unless P refusal Rest)
unless_one P refusal Rest one a b (refused holds is) (refused holds' is') = is ∙ sym is'
unless_one P refusal Rest one a b (refused holds is) (passed fails has) = absurd (fails holds)
unless_one P refusal Rest one a b (passed fails has) (refused holds is) = absurd (fails holds)
unless_one P refusal Rest one a b (passed fails has) (passed fails' has') = one fails a b has has'

pub unless_all : (Good : Outcome → Type 0) (P : Type 0) (refusal : Refusal) (Rest : Outcome → Type 0) → Good (Refuses refusal) → AllAre Good Rest → AllAre Good (Unless P refusal Rest)
unless_all Good P refusal Rest good rest outcome (refused holds is) = subst Good (sym is) good
unless_all Good P refusal Rest good rest outcome (passed fails has) = rest outcome has

-- with another rest
pub unless_to : (P : Type 0) (refusal : Refusal) (Rest Rest' : Outcome → Type 0) (outcome : Outcome) → (Rest outcome → Rest' outcome) → Unless P refusal Rest outcome
    → Unless P refusal Rest' outcome
unless_to P refusal Rest Rest' outcome to (refused holds is) = refused holds is
unless_to P refusal Rest Rest' outcome to (passed fails has) = passed fails (to has)

module _ {X : Type 0} (P : X → Type 0) where
  pub unless_some_some : (refusal : X → Refusal) (Rest : Outcome → Type 0) → ((x : X) × P x) ⊎ ((x : X) → ¬ P x) → (((x : X) → ¬ P x) → AtLeastOne Rest) → AtLeastOne (UnlessSome P refusal Rest)
  unless_some_some refusal Rest (inl found) rest = (Refuses (refusal found.0), refused_for found.0 found.1 refl)
  unless_some_some refusal Rest (inr none) rest = let some = rest none in (some.0, passed_all none some.1)

  pub unless_some_one : (refusal : X → Refusal) (Rest : Outcome → Type 0) → ((x y : X) → P x → P y → x ≡ y) → AtMostOne Rest → AtMostOne (UnlessSome P refusal Rest)
  unless_some_one refusal Rest same one a b (refused_for x holds is) (refused_for y holds' is') = is ∙ ap (λ x. Refuses (refusal x)) (same x y holds holds') ∙ sym is'
  unless_some_one refusal Rest same one a b (refused_for x holds is) (passed_all none has) = absurd (none x holds)
  unless_some_one refusal Rest same one a b (passed_all none has) (refused_for x holds is) = absurd (none x holds)
  unless_some_one refusal Rest same one a b (passed_all none has) (passed_all none' has') = one a b has has'

  pub unless_some_all : (Good : Outcome → Type 0) (refusal : X → Refusal) (Rest : Outcome → Type 0) → ((x : X) → Good (Refuses (refusal x))) → AllAre Good Rest → AllAre Good (UnlessSome P refusal Rest)
  unless_some_all Good refusal Rest good rest outcome (refused_for x holds is) = subst Good (sym is) (good x)
  unless_some_all Good refusal Rest good rest outcome (passed_all none has) = rest outcome has

  pub with_some : (Rest : X → Outcome → Type 0) (x : X) → P x → AtLeastOne (Rest x) → AtLeastOne (With P Rest)
  with_some Rest x holds some = (some.0, with_it x holds some.1)

  pub with_one : (Rest : X → Outcome → Type 0) → ((x y : X) → P x → P y → x ≡ y) → ((x : X) → P x → AtMostOne (Rest x)) → AtMostOne (With P Rest)
  with_one Rest same one a b (with_it x holds has) (with_it y holds' has') =
      one x holds a b has (let Has : X → Type 0 = λ x. Rest x b in subst Has (same y x holds' holds) has')

  pub with_all : (Good : Outcome → Type 0) (Rest : X → Outcome → Type 0) → ((x : X) → P x → AllAre Good (Rest x)) → AllAre Good (With P Rest)
  with_all Good Rest rest outcome (with_it x holds has) = rest x holds outcome has

pub answers_one : (Q : List ℕ → Type 0) → ((x y : List ℕ) → Q x → Q y → x ≡ y) → AtMostOne (Answers Q)
answers_one Q same = with_one Q (λ answer outcome. outcome ≡ Writes answer) same (λ x holds a b is is'. is ∙ sym is')

pub answers_all : (Good : Outcome → Type 0) (Q : List ℕ → Type 0) → ((answer : List ℕ) → Good (Writes answer)) → AllAre Good (Answers Q)
answers_all Good Q good = with_all Q Good (λ answer outcome. outcome ≡ Writes answer) (λ answer holds outcome is. subst Good (sym is) (good answer))
