-- What of a frame stands within the front of longer samples.
use Rattle.std.proofs.Common.{◌≡◌, ℕ, zero, suc, ◌+◌, ◌*◌, ◌≤◌, ◌∙◌, List, [], ◌∷◌, ◌++◌, length, take, drop, ap, sym, refl, arith}
use Rattle.std.proofs.lemmas.List.{drop-append-le, length-drop, take-append-le}
use Rattle.std.proofs.lemmas.Grind.{flat_map-append}
use Rattle.std.proofs.lemmas.List.{append-nil, length-append}
use Rattle.std.specs.List.{flat_map, range_with_len}
use Rattle.std.specs.Prelude.{slice_index}
use Rattle.std.proofs.Math.Nat.{suc-mul}
use Rattle.std.proofs.lemmas.List.FromFn.{length-map-range_with_len}
use Rattle.bit_lists.proofs.ByPlace.{one_place_more}
use Rattle.fixed_complex.specs.declared.Sample.{Sample}
use Rattle.rate_table.specs.declared.Rate.{Rate}
use Rattle.rate_table.specs.declared.Rate.TheVariants.{R6}
use Rattle.signal_field.specs.declared.Header.{Header}
use Rattle.rate_table.specs.Table.{row_of}
use Rattle.interleave_two.specs.Place.{interleaved_place}
use Rattle.carrier_equaliser.specs.Decided.{interleaved_decisions}
use Rattle.carrier_equaliser.specs.Received.{received}
use Rattle.carrier_equaliser.specs.Estimates.{estimate_of}
use Rattle.frame_search.specs.Match.{part}
use Rattle.frame_reader.specs.Decisions.{body_of, decisions_of, estimate_from, plain_decisions}
use Rattle.frame_reader.specs.Frames.{HasField, Opens, data_decisions, need_of, symbols_of}

-- a part that stands within the front
pub part_front : {A : Type 0} (xs ys : List A) (from size : ℕ) → from + size ≤ length xs → part (xs ++ ys) from size ≡ part xs from size
part_front xs ys from size within =
    let inside : from ≤ length xs = omega arith in
    ap (take size) (drop-append-le from xs ys inside) ∙ take-append-le size (drop from xs) ys (omega (arith, length-drop from xs))

-- the estimate
pub estimate_front : (xs ys : List Sample) → 320 ≤ length xs → estimate_from (xs ++ ys) ≡ estimate_from xs
unfolding estimate_from
estimate_front xs ys within =
    let first = part_front xs ys 192 64 (omega arith) in
    let second = part_front xs ys 256 64 (omega arith) in
    ap (λ body. estimate_of (received body) (received (part (xs ++ ys) 256 64))) first
    ∙ ap (λ body. estimate_of (received (part xs 192 64)) (received body)) second

-- the decisions of symbol n
pub decisions_front : (xs ys : List Sample) (rate : Rate) (n : ℕ) → 400 + 80 * n ≤ length xs → plain_decisions (xs ++ ys) rate n ≡ plain_decisions xs rate n
unfolding plain_decisions
decisions_front xs ys rate n within =
    let body = part_front xs ys (336 + 80 * n) 64 (omega arith) in
    ap (λ estimate. decisions_of rate estimate (body_of (xs ++ ys) n)) (estimate_front xs ys (omega arith))
    ∙ ap (decisions_of rate (estimate_from xs)) body

-- of no symbol, and of one more
pub data_none : (decisions : Rate → ℕ → List ℕ) (rate : Rate) → data_decisions decisions rate 0 ≡ []
unfolding data_decisions
data_none decisions rate = refl

pub data_more : (decisions : Rate → ℕ → List ℕ) (rate : Rate) (n : ℕ) → data_decisions decisions rate (n + 1) ≡ data_decisions decisions rate n ++ decisions rate (n + 1)
unfolding data_decisions
data_more decisions rate n =
    let symbol = λ (m : ℕ). decisions rate (m + 1) in
    ap (flat_map symbol) (one_place_more 0 n n (omega arith)) ∙ flat_map-append symbol (range_with_len 0 n) (n ∷ [])
    ∙ ap (λ last. flat_map symbol (range_with_len 0 n) ++ last) (append-nil (decisions rate (n + 1)))

-- the decisions of the first so many DATA symbols
pub data_front : (xs ys : List Sample) (rate : Rate) (n : ℕ) → 400 + 80 * n ≤ length xs → data_decisions (plain_decisions (xs ++ ys)) rate n ≡ data_decisions (plain_decisions xs) rate n
data_front xs ys rate zero within = data_none (plain_decisions (xs ++ ys)) rate ∙ sym (data_none (plain_decisions xs) rate)
data_front xs ys rate (suc n) within =
    let next : suc n ≡ n + 1 = omega arith in
    let before = data_front xs ys rate n (omega arith) in
    let last = decisions_front xs ys rate (n + 1) (omega arith) in
    ap (data_decisions (plain_decisions (xs ++ ys)) rate) next ∙ data_more (plain_decisions (xs ++ ys)) rate n
    ∙ ap (λ front. front ++ plain_decisions (xs ++ ys) rate (n + 1)) before ∙ ap (λ symbol. data_decisions (plain_decisions xs) rate n ++ symbol) last
    ∙ sym (data_more (plain_decisions xs) rate n) ∙ ap (data_decisions (plain_decisions xs) rate) (sym next)

-- a field
pub field_front : (xs ys : List Sample) (header : Header) (number : ℕ) (psdu : List ℕ) → need_of header ≤ length xs
    → HasField (plain_decisions xs) header number psdu → HasField (plain_decisions (xs ++ ys)) header number psdu
field_front xs ys header number psdu within field =
    let same = data_front xs ys header.rate (symbols_of header) (omega arith) in
    (field.0, rw same field.1)

-- a header
pub opens_front : (xs ys : List Sample) (header : Header) → 400 ≤ length xs → Opens xs header → Opens (xs ++ ys) header
opens_front xs ys header within opens =
    let front = part_front xs ys 0 320 (omega arith) in
    let signal = decisions_front xs ys R6 0 (omega arith) in
    record { like = rw front opens.like; says = rw signal opens.says }

pub opens_back : (xs ys : List Sample) (header : Header) → 400 ≤ length xs → Opens (xs ++ ys) header → Opens xs header
opens_back xs ys header within opens =
    let front = part_front xs ys 0 320 (omega arith) in
    let signal = decisions_front xs ys R6 0 (omega arith) in
    record { like = rw front at opens.like; says = rw signal at opens.says }

-- how many decisions the first so many DATA symbols have
pub length-data : (samples : List Sample) (rate : Rate) (n : ℕ) → length (data_decisions (plain_decisions samples) rate n) ≡ n * (row_of rate).coded_bits
unfolding plain_decisions decisions_of
length-data samples rate zero = let none : 0 * (row_of rate).coded_bits ≡ 0 = omega arith in ap length (data_none (plain_decisions samples) rate) ∙ sym none
length-data samples rate (suc n) =
    let next : suc n ≡ n + 1 = omega arith in
    let symbol = length-map-range_with_len (λ k. slice_index (interleaved_decisions rate (estimate_from samples) (received (body_of samples (n + 1)))) (interleaved_place rate k)) 0
    (row_of rate).coded_bits in
    let before = length-data samples rate n in
    let both = ap length (ap (data_decisions (plain_decisions samples) rate) next ∙ data_more (plain_decisions samples) rate n)
    ∙ length-append (data_decisions (plain_decisions samples) rate n) (plain_decisions samples rate (n + 1)) in
    both ∙ ap (λ k. k + length (plain_decisions samples rate (n + 1))) before ∙ ap (λ k. n * (row_of rate).coded_bits + k) symbol ∙ sym (suc-mul n (row_of rate).coded_bits)
