use Rattle.std.proofs.Common.{◌≡◌, ℕ, ◌+◌, ◌*◌, ◌^◌, ◌<◌, List, length, map, sym, subst, ◌∙◌, arith}
use Rattle.std.specs.List.{range_with_len}
use Rattle.std.proofs.lemmas.List.FromFn.{length-map-range_with_len}
use Rattle.fixed_complex.specs.declared.Cx.{Cx}
use Rattle.fixed_complex.specs.Pairs.{IsOfSize}
use Rattle.butterfly64.specs.declared.rows.Row.{Row}
use Rattle.butterfly64.proofs.Halves.{up_at-local}
use Rattle.fixed_complex.specs.PairLists.{PairsOfSize, entry}
use Rattle.fixed_complex.proofs.PairLists.{entry-map}
use Rattle.butterfly64.specs.Rows.{RowsOfSize, place_in}
use Rattle.butterfly64.specs.StagedSums.{up_at, up_sums}
use Rattle.butterfly64.proofs.JoinStages.{after_1, after_2, after_3, after_4, after_5, after_6, sized_0, sized_1, sized_2, sized_3, sized_4, sized_5, stands-first, stands-last}
use Rattle.butterfly64.proofs.SumSizes.{size-up_sums}
use Rattle.butterfly64.proofs.up_rows.Goals as goal

-- the pairs in rows as a list
listed : List Row → List Cx
listed rows = map (place_in rows) (range_with_len 0 64)

listed_at : (rows : List Row) (n : ℕ) → n < 64 → place_in rows n ≡ entry (listed rows) n
unfolding listed
listed_at rows n lt = sym (entry-map (place_in rows) 64 n lt)

listed_sizes : (rows : List Row) → RowsOfSize (2 ^ 24) rows → PairsOfSize (2 ^ 24) (listed rows)
unfolding listed
listed_sizes rows sizes = record {
  each = λ n lt.
      let below : n < 64 = omega (arith, length-map-range_with_len (place_in rows) 0 64) in
      rw (entry-map (place_in rows) 64 n below) (sizes.each n below);
}

pub join_rows-requires-clause-sizes : goal.join_rows-requires-clause-sizes
join_rows-requires-clause-sizes c =
    let x = entry (listed c.args.rows.now) in
    let s0 = stands-first x (place_in c.args.rows.now) (listed_at c.args.rows.now) in
    sized_0 (listed c.args.rows.now) c.args.rows.now (listed_sizes c.args.rows.now c.requires) s0

pub join_rows-requires-2-clause-sizes : goal.join_rows-requires-2-clause-sizes
join_rows-requires-2-clause-sizes c =
    let x = entry (listed c.args.rows.now) in
    let s0 = stands-first x (place_in c.args.rows.now) (listed_at c.args.rows.now) in
    let s1 = after_1 x (place_in c.args.rows.now) (place_in c.join_rows.new.y) s0 c.join_rows.ensures in
    sized_1 (listed c.args.rows.now) c.join_rows.new.y (listed_sizes c.args.rows.now c.requires) s1

pub join_rows-requires-3-clause-sizes : goal.join_rows-requires-3-clause-sizes
join_rows-requires-3-clause-sizes c =
    let x = entry (listed c.args.rows.now) in
    let s0 = stands-first x (place_in c.args.rows.now) (listed_at c.args.rows.now) in
    let s1 = after_1 x (place_in c.args.rows.now) (place_in c.join_rows.new.y) s0 c.join_rows.ensures in
    let s2 = after_2 x (place_in c.join_rows.new.y) (place_in c.join_rows-2.new.y) s1 c.join_rows-2.ensures in
    sized_2 (listed c.args.rows.now) c.join_rows-2.new.y (listed_sizes c.args.rows.now c.requires) s2

pub join_rows-requires-4-clause-sizes : goal.join_rows-requires-4-clause-sizes
join_rows-requires-4-clause-sizes c =
    let x = entry (listed c.args.rows.now) in
    let s0 = stands-first x (place_in c.args.rows.now) (listed_at c.args.rows.now) in
    let s1 = after_1 x (place_in c.args.rows.now) (place_in c.join_rows.new.y) s0 c.join_rows.ensures in
    let s2 = after_2 x (place_in c.join_rows.new.y) (place_in c.join_rows-2.new.y) s1 c.join_rows-2.ensures in
    let s3 = after_3 x (place_in c.join_rows-2.new.y) (place_in c.join_rows-3.new.y) s2 c.join_rows-3.ensures in
    sized_3 (listed c.args.rows.now) c.join_rows-3.new.y (listed_sizes c.args.rows.now c.requires) s3

pub join_rows-requires-5-clause-sizes : goal.join_rows-requires-5-clause-sizes
join_rows-requires-5-clause-sizes c =
    let x = entry (listed c.args.rows.now) in
    let s0 = stands-first x (place_in c.args.rows.now) (listed_at c.args.rows.now) in
    let s1 = after_1 x (place_in c.args.rows.now) (place_in c.join_rows.new.y) s0 c.join_rows.ensures in
    let s2 = after_2 x (place_in c.join_rows.new.y) (place_in c.join_rows-2.new.y) s1 c.join_rows-2.ensures in
    let s3 = after_3 x (place_in c.join_rows-2.new.y) (place_in c.join_rows-3.new.y) s2 c.join_rows-3.ensures in
    let s4 = after_4 x (place_in c.join_rows-3.new.y) (place_in c.join_rows-4.new.y) s3 c.join_rows-4.ensures in
    sized_4 (listed c.args.rows.now) c.join_rows-4.new.y (listed_sizes c.args.rows.now c.requires) s4

pub join_rows-requires-6-clause-sizes : goal.join_rows-requires-6-clause-sizes
join_rows-requires-6-clause-sizes c =
    let x = entry (listed c.args.rows.now) in
    let s0 = stands-first x (place_in c.args.rows.now) (listed_at c.args.rows.now) in
    let s1 = after_1 x (place_in c.args.rows.now) (place_in c.join_rows.new.y) s0 c.join_rows.ensures in
    let s2 = after_2 x (place_in c.join_rows.new.y) (place_in c.join_rows-2.new.y) s1 c.join_rows-2.ensures in
    let s3 = after_3 x (place_in c.join_rows-2.new.y) (place_in c.join_rows-3.new.y) s2 c.join_rows-3.ensures in
    let s4 = after_4 x (place_in c.join_rows-3.new.y) (place_in c.join_rows-4.new.y) s3 c.join_rows-4.ensures in
    let s5 = after_5 x (place_in c.join_rows-4.new.y) (place_in c.join_rows-5.new.y) s4 c.join_rows-5.ensures in
    sized_5 (listed c.args.rows.now) c.join_rows-5.new.y (listed_sizes c.args.rows.now c.requires) s5

pub returns-clause-sums : goal.returns-clause-sums
returns-clause-sums c =
    let x = entry (listed c.args.rows.now) in
    let s0 = stands-first x (place_in c.args.rows.now) (listed_at c.args.rows.now) in
    let s1 = after_1 x (place_in c.args.rows.now) (place_in c.join_rows.new.y) s0 c.join_rows.ensures in
    let s2 = after_2 x (place_in c.join_rows.new.y) (place_in c.join_rows-2.new.y) s1 c.join_rows-2.ensures in
    let s3 = after_3 x (place_in c.join_rows-2.new.y) (place_in c.join_rows-3.new.y) s2 c.join_rows-3.ensures in
    let s4 = after_4 x (place_in c.join_rows-3.new.y) (place_in c.join_rows-4.new.y) s3 c.join_rows-4.ensures in
    let s5 = after_5 x (place_in c.join_rows-4.new.y) (place_in c.join_rows-5.new.y) s4 c.join_rows-5.ensures in
    let s6 = after_6 x (place_in c.join_rows-5.new.y) (place_in c.join_rows-6.new.y) s5 c.join_rows-6.ensures in
    λ n lt. stands-last x (place_in c.join_rows-6.new.y) s6 n lt ∙ up_at-local 6 x (place_in c.args.rows.now) (λ m below. sym (listed_at c.args.rows.now m below)) n

pub returns-clause-sizes : goal.returns-clause-sizes
returns-clause-sizes c =
    let x = listed c.args.rows.now in
    let grown : PairsOfSize (65 * 2 ^ 24 + 256) (up_sums x) = size-up_sums x (2 ^ 24) (omega arith) (listed_sizes c.args.rows.now c.requires) in
    record {
      each = λ n lt.
          let long : length (up_sums x) ≡ 64 = length-map-range_with_len (up_at 6 (entry x)) 0 64 in
          let is : entry (up_sums x) n ≡ place_in c.join_rows-6.new.y n =
          entry-map (up_at 6 (entry x)) 64 n lt ∙ up_at-local 6 (entry x) (place_in c.args.rows.now) (λ m below. sym (listed_at c.args.rows.now m below)) n ∙ sym (returns-clause-sums c n lt) in
          subst (IsOfSize (65 * 2 ^ 24 + 256)) is (grown.each n (omega (arith, long)));
    }
