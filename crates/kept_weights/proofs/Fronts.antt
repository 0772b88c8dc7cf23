-- The kept code of a list's front, and the pairs of marks of the first decisions.
use Rattle.std.proofs.Common.{◌≡◌, ℕ, ◌+◌, ◌-◌, ◌*◌, ◌<◌, ◌≤◌, ◌==◌, cond, not, List, [], ◌∷◌, ◌++◌, length, take, slice_index, inl, inr, ap, sym, ◌∙◌, arith}
use Rattle.std.proofs.lemmas.Bool.{cases_lt}
use Rattle.std.proofs.lemmas.List.{get_or-take, length-take-le}
use Rattle.std.proofs.lemmas.List.FromFn.{map-range_with_len_more, fill_by_all, get_or-map-range_with_len, length-map-range_with_len}
use Rattle.rate_table.specs.declared.CodeRate.{CodeRate}
use Rattle.conv_code.specs.Code.{earlier, parity_a, parity_b, code_of}
use Rattle.conv_code.proofs.Coded.{Codes-code_of}
use Rattle.conv_code.proofs.Inputs.{earlier_before, earlier_inside}
use Rattle.conv_code.proofs.Linear.{same_from_Codes}
use Rattle.puncture_map.specs.Kept.{is_kept, kept_list, kept_count, kept_code, rank}
use Rattle.puncture_map.proofs.KeptBits.{kept_list-take}
use Rattle.puncture_map.proofs.Ranks.{rank-below}
use Rattle.survivor_memory.specs.declared.PairCosts.{PairCosts}
use Rattle.kept_weights.specs.Weights.{distance_over}
use Rattle.kept_weights.specs.Decisions.{mark_cost, decision_cost, costs_of_step, costs_of_steps}
use Rattle.kept_weights.proofs.Sums.{cond_same, sum_below-same}
use Rattle.kept_weights.proofs.Apart.{distance_over-by_places}

-- the inputs before a place of the front are the list's
earlier-take : (n : ℕ) (u : List ℕ) (i steps : ℕ) → i < n → earlier (take n u) i steps ≡ earlier u i steps
earlier-take n u i steps within =
    elim (cases_lt i steps) [
      | inl before ↦ rw (earlier_before (take n u) i steps before, earlier_before u i steps before)
      | inr inside ↦ rw (earlier_inside (take n u) i steps inside, earlier_inside u i steps inside) (get_or-take n u (i - steps) 0 (omega arith))
    ]

-- and so are the parities
parity_a-take : (n : ℕ) (u : List ℕ) (i : ℕ) → i < n → parity_a (take n u) i ≡ parity_a u i
unfolding parity_a
parity_a-take n u i within =
    let at : (steps : ℕ) → earlier (take n u) i steps ≡ earlier u i steps = λ steps. earlier-take n u i steps within in
    rw (at 0, at 2, at 3, at 5, at 6)

-- B as A
parity_b-take : (n : ℕ) (u : List ℕ) (i : ℕ) → i < n → parity_b (take n u) i ≡ parity_b u i
unfolding parity_b
parity_b-take n u i within =
    let at : (steps : ℕ) → earlier (take n u) i steps ≡ earlier u i steps = λ steps. earlier-take n u i steps within in
    rw (at 0, at 1, at 2, at 3, at 6)

-- the front of the code codes the front
code_of-take : (n : ℕ) (u : List ℕ) → n ≤ length u → take (2 * n) (code_of u) ≡ code_of (take n u)
code_of-take n u within =
    let codes = Codes-code_of u in
    let long : length (take n u) ≡ n = length-take-le n u within in
    let long_code : length (take (2 * n) (code_of u)) ≡ 2 * n = length-take-le (2 * n) (code_of u) (omega (arith, codes.twice)) in
    same_from_Codes (take (2 * n) (code_of u)) (take n u) (record {
      twice = omega arith;
      a = λ i h. get_or-take (2 * n) (code_of u) (2 * i) 0 (omega arith) ∙ codes.a i (omega arith) ∙ sym (parity_a-take n u i (omega arith));
      b = λ i h. get_or-take (2 * n) (code_of u) (2 * i + 1) 0 (omega arith) ∙ codes.b i (omega arith) ∙ sym (parity_b-take n u i (omega arith));
    })

-- the front of the kept code is the kept code of the front
pub kept_code-take : (rate : CodeRate) (n : ℕ) (u : List ℕ) → n ≤ length u → take (kept_count rate n) (kept_code rate u) ≡ kept_code rate (take n u)
kept_code-take rate n u within =
    kept_list-take rate (code_of u) (2 * n) (omega (arith, (Codes-code_of u).twice))
    ∙ ap (kept_list rate) (code_of-take n u within)

-- so a distance over it is the front's
pub distance_over-take : (rate : CodeRate) (n : ℕ) (u decisions : List ℕ) → n ≤ length u → distance_over (kept_count rate n) (kept_code rate u) decisions ≡ distance_over (kept_count rate n) (kept_code rate (take n u)) decisions
distance_over-take rate n u decisions within =
    distance_over-by_places (kept_count rate n) (kept_code rate u) decisions
    ∙ sum_below-same _ _ (kept_count rate n) (λ k below.
    ap (λ bit. cond (not (bit == slice_index decisions k)) 1 0) (sym (get_or-take (kept_count rate n) (kept_code rate u) k 0 below) ∙ ap (λ bits. slice_index bits k) (kept_code-take rate n u within)))
    ∙ sym (distance_over-by_places (kept_count rate n) (kept_code rate (take n u)) decisions)

-- one pair more
pub costs_of_steps-more : (rate : CodeRate) (full n : ℕ) (decisions : List ℕ) → costs_of_steps rate full decisions (n + 1) ≡ costs_of_steps rate full decisions n ++ costs_of_step rate full decisions n ∷ []
costs_of_steps-more rate full n decisions = map-range_with_len_more (costs_of_step rate full decisions) 0 n n (omega arith)

-- a mark below so many steps is that of the first decisions
mark_cost-take : (rate : CodeRate) (full n : ℕ) (decisions : List ℕ) (place bit : ℕ) → place < 2 * n → mark_cost rate full (take (kept_count rate n) decisions) place bit ≡ mark_cost rate full decisions place bit
mark_cost-take rate full n decisions place bit within =
    cond_same (is_kept rate place) _ _ (λ kept. ap (λ decision. decision_cost full decision bit) (get_or-take (kept_count rate n) decisions (rank rate place) 0 (rank-below rate place n within kept)))

-- and so is a pair
costs_of_step-take : (rate : CodeRate) (full n : ℕ) (decisions : List ℕ) (i : ℕ) → i < n → costs_of_step rate full (take (kept_count rate n) decisions) i ≡ costs_of_step rate full decisions i
unfolding costs_of_step
costs_of_step-take rate full n decisions i within =
    let at : (place bit : ℕ) → place < 2 * n → mark_cost rate full (take (kept_count rate n) decisions) place bit ≡ mark_cost rate full decisions place bit = mark_cost-take rate full n decisions in
    let first = at (2 * i) 0 (omega arith) in
    let second = at (2 * i) 1 (omega arith) in
    let third = at (2 * i + 1) 0 (omega arith) in
    let fourth = at (2 * i + 1) 1 (omega arith) in
    cc

-- decisions behind the first ones play no part
pub costs_of_steps-take : (rate : CodeRate) (full n : ℕ) (decisions : List ℕ) → costs_of_steps rate full (take (kept_count rate n) decisions) n ≡ costs_of_steps rate full decisions n
costs_of_steps-take rate full n decisions =
    let front = take (kept_count rate n) decisions in
    let none : PairCosts = record { first_zero = 0; first_one = 0; second_zero = 0; second_one = 0 } in
    fill_by_all (costs_of_step rate full decisions) (costs_of_steps rate full front n) n none
    (length-map-range_with_len (costs_of_step rate full front) 0 n)
    (λ k within. get_or-map-range_with_len (costs_of_step rate full front) 0 n k k none within (omega arith) ∙ costs_of_step-take rate full n decisions k within)
