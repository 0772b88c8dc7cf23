-- Sums over the numbers of a drill's frames.
use Rattle.std.proofs.Common.{◌≡◌, ℕ, zero, suc, ◌+◌, ◌<◌, ◌≤◌, Bool, true, false, List, [], ◌∷◌, ◌++◌, length, cond, refl, sym, zero-add, ap, ◌∙◌, arith}
use Rattle.std.specs.List.{count_by, filter, range_with_len, sum_by}
use Rattle.std.proofs.lemmas.List.Elements.{filter-append}
use Rattle.std.proofs.lemmas.List.FromFn.{length-range_with_len}
use Rattle.std.proofs.lemmas.List.Sums.{length-filter, sum_by-append}
use Rattle.bit_lists.proofs.ByPlace.{one_place_more}
use Rattle.frame_drills.specs.Draws.{drawn}
use Rattle.frame_drills.specs.Summaries.{numbers}

-- tests that agree at numbers keep the same of them
kept_alike : (test other : ℕ → Bool) (from count : ℕ) → ((n : ℕ) → from ≤ n → n < from + count → test n ≡ other n) → filter test (range_with_len from count) ≡ filter other (range_with_len from count)
kept_alike test other from zero agree = refl
kept_alike test other from (suc count) agree =
    let first : test from ≡ other from = agree from (omega arith) (omega arith) in
    let rest = kept_alike test other (from + 1) count (λ n least below. agree n (omega arith) (omega arith)) in
    ap (λ b. cond b (from ∷ filter test (range_with_len (from + 1) count)) (filter test (range_with_len (from + 1) count))) first
    ∙ ap (λ list. cond (other from) (from ∷ list) list) rest

pub filter_alike : (test other : ℕ → Bool) (count : ℕ) → ((n : ℕ) → n < count → test n ≡ other n) → filter test (numbers count) ≡ filter other (numbers count)
filter_alike test other count agree = kept_alike test other 0 count (λ n least below. agree n (omega arith))

pub count_alike : (test other : ℕ → Bool) (count : ℕ) → ((n : ℕ) → n < count → test n ≡ other n) → count_by test (numbers count) ≡ count_by other (numbers count)
count_alike test other count agree =
    sym (length-filter test (numbers count)) ∙ ap length (filter_alike test other count agree) ∙ length-filter other (numbers count)

-- all pass a test that is always true
all_kept : (list : List ℕ) → filter (λ _. true) list ≡ list
all_kept [] = refl
all_kept (n ∷ list) = ap (λ rest. n ∷ rest) (all_kept list)

pub count_all : (count : ℕ) → count_by (λ _. true) (numbers count) ≡ count
count_all count =
    sym (length-filter (λ _. true) (numbers count)) ∙ ap length (all_kept (numbers count)) ∙ length-range_with_len 0 count

-- the octets of the frames whose numbers pass a test
abbrev pub octets_of : (ℕ → Bool) → ℕ → ℕ
octets_of test count = sum_by (λ number. length (drawn number).psdu) (filter test (numbers count))

last_of : (test : ℕ → Bool) (count : ℕ) (b : Bool) → test count ≡ b → octets_of test (count + 1) ≡ octets_of test count + cond b (length (drawn count).psdu) 0
last_of test count true is =
    let kept : filter test (numbers (count + 1)) ≡ filter test (numbers count) ++ count ∷ [] =
    ap (filter test) (one_place_more 0 count count (omega arith)) ∙ filter-append test (numbers count) (count ∷ [])
    ∙ ap (λ b. filter test (numbers count) ++ cond b (count ∷ []) []) is in
    ap (sum_by (λ number. length (drawn number).psdu)) kept ∙ sum_by-append (λ number. length (drawn number).psdu) (filter test (numbers count)) (count ∷ [])
    ∙ ap (λ n. octets_of test count + n) (zero-add (length (drawn count).psdu))
last_of test count false is =
    let kept : filter test (numbers (count + 1)) ≡ filter test (numbers count) ++ [] =
    ap (filter test) (one_place_more 0 count count (omega arith)) ∙ filter-append test (numbers count) (count ∷ [])
    ∙ ap (λ b. filter test (numbers count) ++ cond b (count ∷ []) []) is in
    ap (sum_by (λ number. length (drawn number).psdu)) kept ∙ sum_by-append (λ number. length (drawn number).psdu) (filter test (numbers count)) []

pub octets_more : (test : ℕ → Bool) (count : ℕ) → test count ≡ true → octets_of test (count + 1) ≡ octets_of test count + length (drawn count).psdu
octets_more test count is = last_of test count true is

pub octets_same : (test : ℕ → Bool) (count : ℕ) → test count ≡ false → octets_of test (count + 1) ≡ octets_of test count
octets_same test count is = let same = last_of test count false is in omega (arith, same)
