-- The stages within eight lanes.
use Rattle.std.proofs.Common.{◌≡◌, ℕ, ◌+◌, ◌-◌, ◌*◌, ◌/◌, ◌%◌, ◌^◌, ◌<◌, ◌≤◌, true, false, cond, ltb, [], get_or, refl, ◌∙◌, arith}
use Rattle.std.proofs.lemmas.Bool.{ltb-true, agree_below_at, agree_below}
use Rattle.fixed_complex.specs.declared.Cx.{Cx}
use Rattle.fixed_complex.specs.Pairs.{IsOfSize, plus, minus, conjugate, scaled_product}
use Rattle.fixed_complex.specs.Turns.{turn_at}
use Rattle.butterfly64.specs.declared.lanes.Eight.{Eight}
use Rattle.butterfly64.specs.StagedSums.{stage_turn, up_at, down_at}
use Rattle.butterfly64.specs.MirrorOrder.{mirror_of}
use Rattle.butterfly64.specs.Lanes.{lane, low_place, is_low, joined_at, parted_at, EachOfSize}
use Rattle.fixed_complex.proofs.ByTable.{same_pairs, are_same}
use Rattle.butterfly64.specs.declared.lane_turns.TheConstants.{TURNS}
use Rattle.fixed_complex.proofs.PairSizes.{wider, size-plus, size-minus, size-conjugate, size-scaled_product}
use Rattle.fixed_complex.proofs.TurnLaws.{turn-size}
use Rattle.integer_laws.proofs.FewPlaces.{at_eight}
use Rattle.butterfly64.proofs.Mirrors.{mirror_of-below}

-- a lane after a join, from the parts that the code computes
pub joined_of_parts : (k l : ℕ) (x : ℕ → Cx) (low high turn sum difference mixed : Cx) → low ≡ x (low_place k l) → high ≡ x (low_place k l + 2 ^ k) → turn ≡ stage_turn k (l % 2 ^ k)
    → sum ≡ plus low (scaled_product turn high) → difference ≡ minus low (scaled_product turn high) → mixed ≡ cond (is_low k l) sum difference → mixed ≡ joined_at k x l
joined_of_parts k l x low high turn sum difference mixed low_is high_is turn_is sum_is difference_is mixed_is = rw (mixed_is, sum_is, difference_is, low_is, high_is, turn_is)

pub parted_of_parts : (k l : ℕ) (x : ℕ → Cx) (low high turn sum difference mixed : Cx) → low ≡ x (low_place k l) → high ≡ x (low_place k l + 2 ^ k) → turn ≡ stage_turn k (l % 2 ^ k)
    → sum ≡ plus low high → difference ≡ scaled_product (conjugate turn) (minus low high) → mixed ≡ cond (is_low k l) sum difference → mixed ≡ parted_at k x l
parted_of_parts k l x low high turn sum difference mixed low_is high_is turn_is sum_is difference_is mixed_is = rw (mixed_is, sum_is, difference_is, low_is, high_is, turn_is)

-- ---- three stages
-- the two places of a lane are lanes
places_within : (k : ℕ) → k < 3 → (l : ℕ) → l < 8 → low_place k l + 2 ^ k < 8
places_within k k_below l l_below = ltb-true _ _ (agree_below_at (λ l. ltb (low_place k l + 2 ^ k) 8) (λ _. true) 8 l (agree_below_at (λ k. agree_below (λ l. ltb (low_place k l + 2 ^ k) 8) (λ _. true) 8) (λ _. true) 3 k refl k_below) l_below)

-- a stage reads no other lane
joined_at-local : (k : ℕ) → k < 3 → (x y : ℕ → Cx) → ((l : ℕ) → l < 8 → x l ≡ y l) → (l : ℕ) → l < 8 → joined_at k x l ≡ joined_at k y l
joined_at-local k below x y h l lt =
    let within = places_within k below l lt in
    let low = h (low_place k l) (omega (arith, within)) in
    let high = h (low_place k l + 2 ^ k) within in
    rw (low, high)

parted_at-local : (k : ℕ) → k < 3 → (x y : ℕ → Cx) → ((l : ℕ) → l < 8 → x l ≡ y l) → (l : ℕ) → l < 8 → parted_at k x l ≡ parted_at k y l
parted_at-local k below x y h l lt =
    let within = places_within k below l lt in
    let low = h (low_place k l) (omega (arith, within)) in
    let high = h (low_place k l + 2 ^ k) within in
    rw (low, high)

-- three joins of eight pairs in mirror order are their staged sums
three_joins : (x : ℕ → Cx) (l : ℕ) → l < 8 → joined_at 2 (joined_at 1 (joined_at 0 x)) l ≡ up_at 3 (λ m. x (mirror_of 3 m)) l
unfolding up_at mirror_of
three_joins x = at_eight (λ l. joined_at 2 (joined_at 1 (joined_at 0 x)) l ≡ up_at 3 (λ m. x (mirror_of 3 m)) l) refl refl refl refl refl refl refl refl

-- three parts of eight pairs leave their staged sums in mirror order
three_parts : (x : ℕ → Cx) (l : ℕ) → l < 8 → parted_at 0 (parted_at 1 (parted_at 2 x)) (mirror_of 3 l) ≡ down_at 3 x l
unfolding down_at mirror_of
three_parts x = at_eight (λ l. parted_at 0 (parted_at 1 (parted_at 2 x)) (mirror_of 3 l) ≡ down_at 3 x l) refl refl refl refl refl refl refl refl

pub up_of_stages : (x a b c : ℕ → Cx) → ((l : ℕ) → l < 8 → a l ≡ joined_at 0 x l) → ((l : ℕ) → l < 8 → b l ≡ joined_at 1 a l) → ((l : ℕ) → l < 8 → c l ≡ joined_at 2 b l) → (l : ℕ) → l < 8 → c l ≡ up_at 3 (λ m. x (mirror_of 3 m)) l
up_of_stages x a b c first second third l lt =
    third l lt
    ∙ joined_at-local 2 (omega arith) b (joined_at 1 (joined_at 0 x)) (λ l lt. second l lt ∙ joined_at-local 1 (omega arith) a (joined_at 0 x) first l lt) l lt
    ∙ three_joins x l lt

pub down_of_stages : (x a b c : ℕ → Cx) → ((l : ℕ) → l < 8 → a l ≡ parted_at 2 x l) → ((l : ℕ) → l < 8 → b l ≡ parted_at 1 a l) → ((l : ℕ) → l < 8 → c l ≡ parted_at 0 b l) → (l : ℕ) → l < 8 → c (mirror_of 3 l) ≡ down_at 3 x l
down_of_stages x a b c first second third l lt =
    let there : mirror_of 3 l < 8 = mirror_of-below 3 l in
    third (mirror_of 3 l) there
    ∙ parted_at-local 0 (omega arith) b (parted_at 1 (parted_at 2 x)) (λ l lt. second l lt ∙ parted_at-local 1 (omega arith) a (parted_at 2 x) first l lt) (mirror_of 3 l) there
    ∙ three_parts x l lt

-- ---- sizes
pub size-joined_at : (k s : ℕ) → k < 3 → 4 ≤ s → (x : ℕ → Cx) → ((l : ℕ) → l < 8 → IsOfSize s (x l)) → (l : ℕ) → l < 8 → IsOfSize (s * 3) (joined_at k x l)
size-joined_at k s below above x h l lt =
    let within = places_within k below l lt in
    let p = low_place k l in
    let t = scaled_product (stage_turn k (l % 2 ^ k)) (x (p + 2 ^ k)) in
    let t_size = size-scaled_product s (stage_turn k (l % 2 ^ k)) (x (p + 2 ^ k)) (turn-size (2 ^ (5 - k) * (l % 2 ^ k))) (h (p + 2 ^ k) within) in
    let low = h p (omega (arith, within)) in
    elim (is_low k l) as (λ b. IsOfSize (s * 3) (cond b (plus (x p) t) (minus (x p) t))) [
      | true ↦ wider (s + (s + s / 1048576 + 2)) (s * 3) _ (omega arith) (size-plus s (s + s / 1048576 + 2) (x p) t low t_size)
      | false ↦ wider (s + (s + s / 1048576 + 2)) (s * 3) _ (omega arith) (size-minus s (s + s / 1048576 + 2) (x p) t low t_size)
    ]

pub size-parted_at : (k s : ℕ) → k < 3 → 4 ≤ s → (x : ℕ → Cx) → ((l : ℕ) → l < 8 → IsOfSize s (x l)) → (l : ℕ) → l < 8 → IsOfSize (s * 3) (parted_at k x l)
size-parted_at k s below above x h l lt =
    let within = places_within k below l lt in
    let p = low_place k l in
    let d = minus (x p) (x (p + 2 ^ k)) in
    let t = scaled_product (conjugate (stage_turn k (l % 2 ^ k))) d in
    let low = h p (omega (arith, within)) in
    let high = h (p + 2 ^ k) within in
    elim (is_low k l) as (λ b. IsOfSize (s * 3) (cond b (plus (x p) (x (p + 2 ^ k))) t)) [
      | true ↦ wider (s + s) (s * 3) _ (omega arith) (size-plus s s (x p) (x (p + 2 ^ k)) low high)
      | false ↦ wider ((s + s) + (s + s) / 1048576 + 2) (s * 3) _ (omega arith)
          (size-scaled_product (s + s) (conjugate (stage_turn k (l % 2 ^ k))) d (size-conjugate _ _ (turn-size (2 ^ (5 - k) * (l % 2 ^ k)))) (size-minus s s (x p) (x (p + 2 ^ k)) low high))
    ]

pub each_wider : (a b : ℕ) (x : Eight) → a ≤ b → ((l : ℕ) → l < 8 → IsOfSize a (lane x l)) → EachOfSize b x
each_wider a b x h w = record { each = λ l lt. wider a b (lane x l) h (w l lt) }

-- ---- the table of turns in lanes
-- an eight of zeros
abbrev pub no_pairs : Eight
no_pairs = record { re = []; im = [] }

-- the turns of the stages within eight lanes
pub turns_within_eight : (k : ℕ) → k < 3 → (l : ℕ) → l < 8 → lane (get_or TURNS k no_pairs) l ≡ stage_turn k (l % 2 ^ k)
unfolding turn_at
turns_within_eight k k_below l l_below =
    are_same _ _ (agree_below_at (λ l. same_pairs (lane (get_or TURNS k no_pairs) l) (stage_turn k (l % 2 ^ k))) (λ _. true) 8 l (agree_below_at (λ k. agree_below (λ l. same_pairs (lane (get_or TURNS k no_pairs) l) (stage_turn k (l % 2 ^ k))) (λ _. true) 8) (λ _. true) 3 k refl k_below) l_below)

-- sizes after a stage
pub after_join : (k s : ℕ) (x y : Eight) → k < 3 → 4 ≤ s → ((l : ℕ) → l < 8 → IsOfSize s (lane x l)) → ((l : ℕ) → l < 8 → lane y l ≡ joined_at k (lane x) l) → (l : ℕ) → l < 8 → IsOfSize (s * 3) (lane y l)
after_join k s x y below above h e l lt = rw (e l lt) (size-joined_at k s below above (lane x) h l lt)

pub after_part : (k s : ℕ) (x y : Eight) → k < 3 → 4 ≤ s → ((l : ℕ) → l < 8 → IsOfSize s (lane x l)) → ((l : ℕ) → l < 8 → lane y l ≡ parted_at k (lane x) l) → (l : ℕ) → l < 8 → IsOfSize (s * 3) (lane y l)
after_part k s x y below above h e l lt = rw (e l lt) (size-parted_at k s below above (lane x) h l lt)
