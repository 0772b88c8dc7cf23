-- The places of pairs in rows.
use Rattle.std.proofs.Common.{◌≡◌, ◌≢◌, inl, inr, ℕ, ◌+◌, ◌-◌, ◌*◌, ◌/◌, ◌%◌, ◌^◌, ◌<◌, ◌≤◌, List, length, set, refl, subst, ◌∙◌, true, false, ltb, get_or-set_other, get_or-set_same, arith}
use Rattle.std.specs.Prelude.{ℤ, pos}
use Rattle.std.proofs.lemmas.Bool.{cases_lt, lt-ltb}
use Rattle.fixed_complex.specs.declared.Cx.{Cx}
use Rattle.fixed_complex.specs.Pairs.{IsWithin}
use Rattle.fixed_complex.proofs.PairSizes.{wider, within-size}
use Rattle.butterfly64.specs.declared.rows.Row.{Row}
use Rattle.butterfly64.specs.Rows.{RowOfSize, RowsOfSize, place_in, place_of_two, row_in, row_lane}

pub place_is : (xs : List Row) (n r l : ℕ) → n / 8 ≡ r → n % 8 ≡ l → row_lane (row_in xs r) l ≡ place_in xs n
place_is xs n r l e f = rw (e, f) refl

pub row_of_size : (bound : ℕ) (xs : List Row) (r : ℕ) → r < 8 → RowsOfSize bound xs → RowOfSize bound (row_in xs r)
row_of_size bound xs r h sizes = record {
  each = λ l lt.
      let e : (8 * r + l) / 8 ≡ r = omega arith in
      let f : (8 * r + l) % 8 ≡ l = omega arith in
      rw (place_is xs (8 * r + l) r l e f) (sizes.each (8 * r + l) (omega arith));
}

pub rows_wider : (a b : ℕ) (xs : List Row) → a ≤ b → RowsOfSize a xs → RowsOfSize b xs
rows_wider a b xs h sizes = record { each = λ n lt. wider a b _ h (sizes.each n lt) }

-- the pair at a place of two rows
pub two_at : (xs : List Row) (p m n : ℕ) → n ≡ 16 * p + m → m < 16 → place_of_two (row_in xs (2 * p)) (row_in xs (2 * p + 1)) m ≡ place_in xs n
two_at xs p m n is below =
    elim (cases_lt m 8) [
      | inl here ↦
          let first : ltb m 8 ≡ true = lt-ltb m 8 here in
          rw first (place_is xs n (2 * p) m (omega arith) (omega arith))
      | inr past ↦
          let last : ltb m 8 ≡ false = grind arith in
          rw last (place_is xs n (2 * p + 1) (m - 8) (omega arith) (omega arith))
    ]

-- a pair more of a row
pub row_more : (f : ℕ → Cx) (place l next : ℕ) (row : Row) (a b : ℤ) → next ≡ l + 1 → l < 8 → length row.re ≡ 8 → length row.im ≡ 8 → a ≡ (f (place + l)).re → b ≡ (f (place + l)).im → ((k : ℕ) → k < l → row_lane row k ≡ f (place + k))
    → (k : ℕ) → k < next → let more : Row = record { re = set row.re l a; im = set row.im l b } in row_lane more k ≡ f (place + k)
row_more f place l next row a b e below re_long im_long a_is b_is before k lt =
    elim (cases_lt k l) [
      | inl here ↦
          let other : k ≢ l = omega arith in
          let re = get_or-set_other row.re l k a (pos 0) other in
          let im = get_or-set_other row.im l k b (pos 0) other in
          (λ i. record { re = re i; im = im i }) ∙ before k here
      | inr past ↦
          let at : k ≡ l = omega arith in
          let re = get_or-set_same row.re l a (pos 0) (omega arith) ∙ a_is in
          let im = get_or-set_same row.im l b (pos 0) (omega arith) ∙ b_is in
          let more : Row = record { re = set row.re l a; im = set row.im l b } in
          let pair : row_lane more l ≡ f (place + l) = λ i. record { re = re i; im = im i } in
          rw at pair
    ]

-- lane l of row r
pub lane_is : (xs : List Row) (r l : ℕ) → l < 8 → row_lane (row_in xs r) l ≡ place_in xs (8 * r + l)
lane_is xs r l lt = place_is xs (8 * r + l) r l (omega arith) (omega arith)

pub lane_within : (xs : List Row) (r l : ℕ) → RowsOfSize (65 * 2 ^ 24 + 256) xs → r < 8 → l < 8 → IsWithin (2 ^ 31 - 2 ^ 9) (row_lane (row_in xs r) l)
lane_within xs r l sizes below lt =
    rw (lane_is xs r l lt) (within-size (2 ^ 31 - 2 ^ 9) _ (wider (65 * 2 ^ 24 + 256) (2 ^ 31 - 2 ^ 9) _ (omega arith) (sizes.each (8 * r + l) (omega arith))))

-- eight places more of what is put row by row
pub one_row_more : {A : Type 0} (f old new : ℕ → A) (r : ℕ) → ((n : ℕ) → n < 8 * r → old n ≡ f n) → ((n : ℕ) → n < 8 * r → new n ≡ old n) → ((l : ℕ) → l < 8 → new (8 * r + l) ≡ f (8 * r + l)) → (n : ℕ) → n < 8 * (r + 1) → new n ≡ f n
one_row_more f old new r so_far kept put n lt =
    elim (cases_lt n (8 * r)) [
      | inl earlier ↦ kept n earlier ∙ so_far n earlier
      | inr later ↦
          let here : 8 * r + (n - 8 * r) ≡ n = omega arith in
          subst (λ m. new m ≡ f m) here (put (n - 8 * r) (omega arith))
    ]
