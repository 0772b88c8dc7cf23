-- The least place at which a decided property holds.
use Rattle.std.proofs.Common.{◌≡◌, ℕ, zero, suc, ◌+◌, ◌<◌, ◌≤◌, ◌⊎◌, arith, inl, inr}
use Rattle.std.proofs.lemmas.Bool.{cases_lt, cases_order}

-- no place from one on and before another has it
abbrev pub Without : (ℕ → Type 0) → ℕ → ℕ → Type 0
Without P from upto = (place : ℕ) → from ≤ place → place < upto → P place → ⊥

-- the least place from a place on that has it
pub record IsLeast (P : ℕ → Type 0) (from place : ℕ) : Type 0 where
  pub least : from ≤ place
  pub here : P place
  pub none_before : Without P from place

pub one_least : (P : ℕ → Type 0) (from m n : ℕ) → IsLeast P from m → IsLeast P from n → m ≡ n
one_least P from m n first second =
    elim (cases_order m n) [
      | inl same ↦ same
      | inr (inl below) ↦ absurd (second.none_before m first.least below first.here)
      | inr (inr past) ↦ absurd (first.none_before n second.least past second.here)
    ]

-- none, or the least one, among so many places
pub none_or_least : (P : ℕ → Type 0) → ((n : ℕ) → P n ⊎ (P n → ⊥)) → (left from : ℕ)
    → Without P from (from + left) ⊎ ((place : ℕ) × IsLeast P from place)
none_or_least P decided zero from = inl (λ place least below has. absurd (omega arith))
none_or_least P decided (suc left) from =
    elim (decided from) [
      | inl has ↦ inr (from, record { least = omega arith; here = has; none_before = λ place least below has. absurd (omega arith) })
      | inr hasnt ↦ elim (none_or_least P decided left (from + 1)) [
        | inl none ↦ inl (λ place least below has. elim (cases_lt from place) [
          | inl past ↦ none place (omega arith) (omega arith) has
          | inr at ↦ let same : place ≡ from = omega arith in hasnt (rw same at has)
        ])
        | inr found ↦ inr (
          found.0,
          record {
            least = let least = found.1.least in omega arith;
            here = found.1.here;
            none_before = λ place least below has. elim (cases_lt from place) [
              | inl past ↦ found.1.none_before place (omega arith) below has
              | inr at ↦ let same : place ≡ from = omega arith in hasnt (rw same at has)
            ];
          },
        )
      ]
    ]
