-- The sums over the pilots, one by one.
use Rattle.std.proofs.Common.{◌≡◌, ℕ, ◌+◌, ◌≢◌, inl, inr, pos, List, refl, ap, sym, ◌∙◌, arith}
use Rattle.std.proofs.lemmas.Bool.Decides.{eqb_tells}
use Rattle.std.proofs.lemmas.List.Sums.{sum_by_push}
use Rattle.std.specs.List.{range_with_len, sum_by}
use Rattle.bit_lists.proofs.ByPlace.{one_place_more}
use Rattle.fixed_complex.specs.declared.Cx.{Cx}
use Rattle.fixed_complex.specs.Laws.{sum_below}
use Rattle.fixed_complex.specs.PairLists.{entry}
use Rattle.fixed_complex.specs.Pairs.{squared_size}
use Rattle.pilot_turns.specs.Pilots.{pilot_back, pilot_bin, pilots_back, pilots_weight, turn_by_pilots, turn_part}

-- the weight, pilot by pilot
pub weight_more : (estimate : List Cx) (k before square : ℕ) → before ≡ sum_by (λ j. squared_size (entry estimate (pilot_bin j))) (range_with_len 0 k) → square ≡ squared_size (entry estimate (pilot_bin k))
    → before + square ≡ sum_by (λ j. squared_size (entry estimate (pilot_bin j))) (range_with_len 0 (k + 1))
weight_more estimate k before square is same =
    let f = λ (j : ℕ). squared_size (entry estimate (pilot_bin j)) in
    ap (λ w. w + square) is ∙ ap (λ s. sum_by f (range_with_len 0 k) + s) same
    ∙ sym (ap (sum_by f) (one_place_more 0 k k (omega arith)) ∙ sum_by_push f (range_with_len 0 k) k)

-- the turn, where the channel gives nothing at the pilots, and where it gives something
pub no_turn : (estimate symbol : List Cx) (n : ℕ) → sum_by (λ j. squared_size (entry estimate (pilot_bin j))) (range_with_len 0 4) ≡ 0 → record { re = pos 16384; im = pos 0 } ≡ turn_by_pilots estimate symbol n
unfolding turn_by_pilots pilots_weight
no_turn estimate symbol n none = rw none refl

pub some_turn : (estimate symbol : List Cx) (n weight : ℕ) (sum : Cx) → weight ≡ sum_by (λ j. squared_size (entry estimate (pilot_bin j))) (range_with_len 0 4) → sum ≡ sum_below 4 (pilot_back estimate symbol n) → weight ≢ 0
    → record { re = turn_part weight sum.re; im = turn_part weight sum.im } ≡ turn_by_pilots estimate symbol n
unfolding turn_by_pilots pilots_weight pilots_back
some_turn estimate symbol n weight sum is same some =
    elim (eqb_tells weight 0) [
      | inl none ↦ absurd (some none.1)
      | inr test ↦ rw (← is, ← same, test.0) refl
    ]
