-- The marks of whole symbols, and of some steps more.
use Rattle.std.proofs.Common.{◌≡◌, ℕ, zero, suc, ◌+◌, ◌*◌, ◌%◌, ◌<◌, ◌≤◌, List, [], ◌∷◌, ◌++◌, cond, length, take, get_or, refl, sym, ap, ◌∙◌, arith, append_assoc, append-nil}
use Rattle.std.specs.Prelude.{◌==◌, ◌||◌, nat_lt, if◌then◌else◌}
use Rattle.std.proofs.lemmas.List.{get_or-append-add}
use Rattle.std.proofs.Math.Seq.{take-append_seam}
use Rattle.rate_table.specs.declared.CodeRate.{CodeRate}
use Rattle.rate_table.specs.declared.CodeRate.TheVariants.{TwoThirds, ThreeQuarters}
use Rattle.rate_table.specs.declared.Rate.{Rate}
use Rattle.rate_table.specs.Symbols.{bits_through_tail, symbol_count}
use Rattle.rate_table.specs.Table.{row_of}
use Rattle.rate_table.proofs.ByRate.{by_rate}
use Rattle.puncture_map.specs.Carried.{carried_pair}
use Rattle.puncture_map.specs.Kept.{is_kept, kept_count, rank}
use Rattle.puncture_map.proofs.Counts.{kept_count-symbols}
use Rattle.puncture_map.proofs.Ranks.{kept_count-rises, rank-more}
use Rattle.viterbi_lanes.specs.declared.Mark.TheVariants.{Zero, One, Absent}
use Rattle.viterbi_lanes.specs.Decisions.{mark_at, marks_at, marks_of}
use Rattle.viterbi_lanes.proofs.Decisions.{marks_of_more, marks_of-take}

-- a place is kept where one whole symbols before it is
by_fours : (place n : ℕ) → (4 * n + place) % 4 ≡ place % 4
by_fours place n = omega arith

by_sixes : (place n : ℕ) → (6 * n + place) % 6 ≡ place % 6
by_sixes place n = omega arith

kept_by_periods : (n place : ℕ) → (is_kept TwoThirds (4 * n + place) ≡ is_kept TwoThirds place) × (is_kept ThreeQuarters (6 * n + place) ≡ is_kept ThreeQuarters place)
kept_by_periods n place =
    (ap (λ k. nat_lt k 3) (by_fours place n), ap (λ k. nat_lt k 3 || (k == 5)) (by_sixes place n))

at_two_thirds : (base n place : ℕ) → base ≡ 4 * n → is_kept TwoThirds (base + place) ≡ is_kept TwoThirds place
at_two_thirds base n place same = rw same (kept_by_periods n place).0

at_three_quarters : (base n place : ℕ) → base ≡ 6 * n → is_kept ThreeQuarters (base + place) ≡ is_kept ThreeQuarters place
at_three_quarters base n place same = rw same (kept_by_periods n place).1

pub kept_again : (rate : Rate) (symbols place : ℕ) → is_kept (row_of rate).code_rate (2 * (symbols * (row_of rate).field_bits) + place) ≡ is_kept (row_of rate).code_rate place
kept_again =
    by_rate (λ rate. (symbols place : ℕ) → is_kept (row_of rate).code_rate (2 * (symbols * (row_of rate).field_bits) + place) ≡ is_kept (row_of rate).code_rate place)
    (λ m place. refl)
    (λ m place. at_three_quarters (2 * (m * 36)) (12 * m) place (omega arith))
    (λ m place. refl)
    (λ m place. at_three_quarters (2 * (m * 72)) (24 * m) place (omega arith))
    (λ m place. refl)
    (λ m place. at_three_quarters (2 * (m * 144)) (48 * m) place (omega arith))
    (λ m place. at_two_thirds (2 * (m * 192)) (96 * m) place (omega arith))
    (λ m place. at_three_quarters (2 * (m * 216)) (72 * m) place (omega arith))

-- its rank counts the places kept before it in turn
rank_again : (rate : CodeRate) (base place : ℕ) → ((place : ℕ) → is_kept rate (base + place) ≡ is_kept rate place) → rank rate (base + place) ≡ rank rate base + rank rate place
rank_again rate base zero again = let same : base + zero ≡ base = omega arith in rw same (omega (arith, rank_zero rate))
  where
    rank_zero : (rate : CodeRate) → rank rate 0 ≡ 0
    rank_zero rate = refl
rank_again rate base (suc place) again =
    let next : base + suc place ≡ base + place + 1 = omega arith in
    let one : suc place ≡ place + 1 = omega arith in
    let kept = ap (λ b. cond {A = ℕ} b 1 0) (again place) in
    let more : rank rate (base + place + 1) ≡ rank rate base + rank rate (place + 1) = omega (arith, rank-more rate (base + place), rank-more rate place, kept, rank_again rate base place again) in
    ap (rank rate) next ∙ more ∙ ap (λ n. rank rate base + rank rate n) (sym one)

-- the marks of a step behind whole symbols
marks_behind : (rate : Rate) (before symbol : List ℕ) (symbols place : ℕ) → length before ≡ symbols * (row_of rate).coded_bits → mark_at (row_of rate).code_rate (before ++ symbol) (2 * (symbols * (row_of rate).field_bits) + place) ≡ mark_at (row_of rate).code_rate symbol place
marks_behind rate before symbol symbols place long =
    let code_rate = (row_of rate).code_rate in
    let base = 2 * (symbols * (row_of rate).field_bits) in
    let count : rank code_rate base ≡ length before = kept_count-symbols rate code_rate symbols refl ∙ sym long in
    let at : rank code_rate (base + place) ≡ length before + rank code_rate place = rank_again code_rate base place (kept_again rate symbols) ∙ ap (λ n. n + rank code_rate place) count in
    let read : get_or (before ++ symbol) (rank code_rate (base + place)) 0 ≡ get_or symbol (rank code_rate place) 0 = ap (λ n. get_or (before ++ symbol) n 0) at ∙ get_or-append-add before symbol (rank code_rate place) 0 in
    ap (λ kept. if kept then (if get_or (before ++ symbol) (rank code_rate (base + place)) 0 == 0 then Zero else One) else Absent) (kept_again rate symbols place)
    ∙ ap (λ decision. if is_kept code_rate place then (if decision == 0 then Zero else One) else Absent) read

pair_behind : (rate : Rate) (before symbol : List ℕ) (symbols step : ℕ) → length before ≡ symbols * (row_of rate).coded_bits → marks_at (row_of rate).code_rate (before ++ symbol) (symbols * (row_of rate).field_bits + step) ≡ marks_at (row_of rate).code_rate symbol step
unfolding carried_pair
pair_behind rate before symbol symbols step long =
    let base = symbols * (row_of rate).field_bits in
    let first : 2 * (base + step) ≡ 2 * base + 2 * step = omega arith in
    let second : 2 * base + 2 * step + 1 ≡ 2 * base + (2 * step + 1) = omega arith in
    rw (first, second, marks_behind rate before symbol symbols (2 * step) long, marks_behind rate before symbol symbols (2 * step + 1) long)

-- the marks of whole symbols and of some steps more
pub marks_join : (rate : Rate) (before symbol : List ℕ) (symbols steps : ℕ) → length before ≡ symbols * (row_of rate).coded_bits → marks_of (row_of rate).code_rate (before ++ symbol) (symbols * (row_of rate).field_bits + steps) ≡ marks_of (row_of rate).code_rate before (symbols * (row_of rate).field_bits) ++ marks_of (row_of rate).code_rate symbol steps
marks_join rate before symbol symbols zero long =
    let code_rate = (row_of rate).code_rate in
    let base = symbols * (row_of rate).field_bits in
    let same : base + zero ≡ base = omega arith in
    let count : kept_count code_rate base ≡ length before = kept_count-symbols rate code_rate symbols refl ∙ sym long in
    let first : take (kept_count code_rate base) (before ++ symbol) ≡ before = ap (λ n. take n (before ++ symbol)) count ∙ take-append_seam before symbol in
    ap (marks_of code_rate (before ++ symbol)) same ∙ sym (marks_of-take code_rate (before ++ symbol) base) ∙ ap (λ decisions. marks_of code_rate decisions base) first ∙ sym (append-nil _)
marks_join rate before symbol symbols (suc steps) long =
    let code_rate = (row_of rate).code_rate in
    let base = symbols * (row_of rate).field_bits in
    let next : base + suc steps ≡ base + steps + 1 = omega arith in
    let one : suc steps ≡ steps + 1 = omega arith in
    let more : marks_of code_rate (before ++ symbol) (base + steps + 1) ≡ marks_of code_rate before base ++ marks_of code_rate symbol (steps + 1) =
    rw (marks_of_more code_rate (before ++ symbol) (base + steps), marks_of_more code_rate symbol steps, pair_behind rate before symbol symbols steps long, marks_join rate before symbol symbols steps long)
    (append_assoc (marks_of code_rate before base) (marks_of code_rate symbol steps) (marks_at code_rate symbol steps ∷ [])) in
    ap (marks_of code_rate (before ++ symbol)) next ∙ more ∙ ap (λ n. marks_of code_rate before base ++ marks_of code_rate symbol n) (sym one)

-- a symbol before the last begins before the end of the tail, and has a step at least and 216 at most
pub record IsInField (field_bits octets symbol : ℕ) : Type 0 where
  pub begins : symbol * field_bits < bits_through_tail octets
  pub next : (symbol + 1) * field_bits ≡ symbol * field_bits + field_bits
  pub some : 1 ≤ field_bits
  pub most : field_bits ≤ 216

pub symbol_in_field : (rate : Rate) (octets symbol : ℕ) → symbol < symbol_count (row_of rate).field_bits octets → IsInField (row_of rate).field_bits octets symbol
symbol_in_field =
    by_rate (λ rate. (octets symbol : ℕ) → symbol < symbol_count (row_of rate).field_bits octets → IsInField (row_of rate).field_bits octets symbol)
    (λ n m h. record { begins = omega arith; next = omega arith; some = omega arith; most = omega arith })
    (λ n m h. record { begins = omega arith; next = omega arith; some = omega arith; most = omega arith })
    (λ n m h. record { begins = omega arith; next = omega arith; some = omega arith; most = omega arith })
    (λ n m h. record { begins = omega arith; next = omega arith; some = omega arith; most = omega arith })
    (λ n m h. record { begins = omega arith; next = omega arith; some = omega arith; most = omega arith })
    (λ n m h. record { begins = omega arith; next = omega arith; some = omega arith; most = omega arith })
    (λ n m h. record { begins = omega arith; next = omega arith; some = omega arith; most = omega arith })
    (λ n m h. record { begins = omega arith; next = omega arith; some = omega arith; most = omega arith })

-- so few steps of a symbol have enough decisions
pub enough_decisions : (rate : Rate) (steps : ℕ) → steps ≤ (row_of rate).field_bits → kept_count (row_of rate).code_rate steps ≤ (row_of rate).coded_bits
enough_decisions rate steps few =
    let one : 1 * (row_of rate).field_bits ≡ (row_of rate).field_bits = omega arith in
    let count = kept_count-symbols rate (row_of rate).code_rate 1 refl in
    omega (arith, kept_count-rises (row_of rate).code_rate steps (1 * (row_of rate).field_bits) (omega arith), count)
