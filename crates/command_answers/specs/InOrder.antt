-- What a run comes to, and refusals in their order (own).
use Rattle.std.specs.Prelude.{ℕ, ◌≡◌, List}
use Rattle.report_lines.specs.declared.Refusal.{Refusal}

-- bytes that are written, or a refusal
pub data Outcome : Type 0 where
  Writes : List ℕ → Outcome
  Refuses : Refusal → Outcome

-- a refusal where a condition holds, and else what comes behind it
pub data Unless (P : Type 0) (refusal : Refusal) (Rest : Outcome → Type 0) (outcome : Outcome)
    : Type 0 where
  refused : P → outcome ≡ Refuses refusal → Unless P refusal Rest outcome
  passed : ¬ P → Rest outcome → Unless P refusal Rest outcome

-- a refusal that names the thing of which a property holds, and what comes behind it where it holds of
-- none
pub data UnlessSome {X : Type 0} (P : X → Type 0) (refusal : X → Refusal) (Rest : Outcome → Type 0)
    (outcome : Outcome) : Type 0 where
  refused_for : (x : X) → P x → outcome ≡ Refuses (refusal x) → UnlessSome P refusal Rest outcome
  passed_all : ((x : X) → ¬ P x) → Rest outcome → UnlessSome P refusal Rest outcome

-- what comes behind the thing of which a property holds
pub data With {X : Type 0} (Q : X → Type 0) (Rest : X → Outcome → Type 0) (outcome : Outcome)
    : Type 0 where
  with_it : (x : X) → Q x → Rest x outcome → With Q Rest outcome

-- the bytes of which a property holds are written
abbrev pub Answers : (List ℕ → Type 0) → Outcome → Type 0
Answers Q outcome = With Q (λ answer outcome. outcome ≡ Writes answer) outcome
