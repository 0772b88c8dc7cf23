-- Eight pairs in lanes, and lists of them (own).
use Rattle.std.specs.Prelude.{ℕ, ◌+◌, ◌*◌, ◌/◌, ◌%◌, ◌^◌, ◌<◌, Bool, nat_lt, if◌then◌else◌, List, [], ◌∷◌, ◌++◌, map, slice_index_or}
use Rattle.std.specs.List.{range_with_len}
use Rattle.fixed_complex.specs.declared.Cx.{Cx}
use Rattle.fixed_complex.specs.Pairs.{IsWithin, IsOfSize, plus, minus, conjugate, scaled_product}
use Rattle.butterfly64.specs.StagedSums.{stage_turn}
use Rattle.butterfly64.specs.declared.lanes.Eight.{Eight}
use Rattle.fixed_complex.specs.Numbers.{number_at}

-- the pair in a lane
abbrev pub lane : Eight → ℕ → Cx
lane x l = record { re = number_at x.re l; im = number_at x.im l }

-- the pairs of a list of eights, in order
unfoldable pub pairs_of : List Eight → List Cx
pairs_of [] = []
pairs_of (x ∷ xs) = map (lane x) (range_with_len 0 8) ++ pairs_of xs

-- each component of the pair in each of eight lanes is at most so large in size
pub record EachWithin (bound : ℕ) (x : Eight) : Type 0 where
  pub each : (l : ℕ) → l < 8 → IsWithin bound (lane x l)

-- the first of the two places that a stage 2^k apart takes lane l from
abbrev pub low_place : ℕ → ℕ → ℕ
low_place k l = l / (2 * 2 ^ k) * (2 * 2 ^ k) + l % 2 ^ k

-- lane l stands in the lower half of its block of a stage 2^k apart
abbrev pub is_low : ℕ → ℕ → Bool
is_low k l = nat_lt (l % (2 * 2 ^ k)) (2 ^ k)

-- each of eight pairs is at most so large in size
pub record EachOfSize (bound : ℕ) (x : Eight) : Type 0 where
  pub each : (l : ℕ) → l < 8 → IsOfSize bound (lane x l)

-- lane l after a join 2^k apart: the sum or the difference of a pair and the turn of another
abbrev pub joined_at : ℕ → (ℕ → Cx) → ℕ → Cx
joined_at k x l =
    let p = low_place k l in
    let t = scaled_product (stage_turn k (l % 2 ^ k)) (x (p + 2 ^ k)) in
    if is_low k l then plus (x p) t else minus (x p) t

-- lane l after a part 2^k apart: the sum of two pairs, or their difference turned back
abbrev pub parted_at : ℕ → (ℕ → Cx) → ℕ → Cx
parted_at k x l =
    let p = low_place k l in
    let t = scaled_product (conjugate (stage_turn k (l % 2 ^ k))) (minus (x p) (x (p + 2 ^ k))) in
    if is_low k l then plus (x p) (x (p + 2 ^ k)) else t

-- the eight at a place of a list
abbrev pub eight_in : List Eight → ℕ → Eight
eight_in xs c = slice_index_or xs c (record { re = []; im = [] })
