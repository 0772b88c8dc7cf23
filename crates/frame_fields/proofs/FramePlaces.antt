-- What stands at a place of a frame, of samples or of pairs.
use Rattle.std.proofs.Common.{◌≡◌, ℕ, zero, suc, ◌+◌, ◌*◌, ◌%◌, ◌<◌, ◌≤◌, List, ◌++◌, length, get_or, ap, refl, ◌∙◌, arith}
use Rattle.std.proofs.lemmas.List.{length-append, get_or_append_left, get_or-append-add}
use Rattle.std.proofs.lemmas.List.FromFn.{length-map-range_with_len, get_or-map-range_with_len}
use Rattle.std.specs.List.{flat_map, range_with_len}
use Rattle.fixed_complex.specs.declared.Cx.{Cx}
use Rattle.rate_table.specs.declared.Rate.{Rate}
use Rattle.rate_table.specs.Symbols.{symbol_count}
use Rattle.rate_table.specs.Table.{row_of}
use Rattle.carrier_bins.specs.Bins.{by_bin}
use Rattle.training_fields.specs.Training.{long_carrier, long_times, preamble_of, short_carrier, short_times}
use Rattle.frame_fields.specs.Frames.{frame_bin, frame_of, frame_symbol}

-- ---- pieces of 80 entries, the first of which is piece `from`
module _ {A : Type 0} (piece : ℕ → List A) (eighty : (n : ℕ) → length (piece n) ≡ 80) where
  length-pieces : (from count : ℕ) → length (flat_map piece (range_with_len from count)) ≡ 80 * count
  length-pieces from zero = refl
  length-pieces from (suc n) =
      omega (arith, length-append (piece from) (flat_map piece (range_with_len (from + 1) n)), eighty from, length-pieces (from + 1) n)

  get_or-pieces : (from count n t : ℕ) (d : A) → n < count → t < 80
      → get_or (flat_map piece (range_with_len from count)) (80 * n + t) d ≡ get_or (piece (from + n)) t d
  get_or-pieces from zero n t d below inside = absurd (omega arith)
  get_or-pieces from (suc count) zero t d below inside =
      let first : from + 0 ≡ from = omega arith in
      let at : 80 * 0 + t ≡ t = omega arith in
      rw (first, at) (get_or_append_left (piece from) (flat_map piece (range_with_len (from + 1) count)) d t (omega (arith, eighty from)))
  get_or-pieces from (suc count) (suc n) t d below inside =
      let at : 80 * suc n + t ≡ length (piece from) + (80 * n + t) = omega (arith, eighty from) in
      let next : (from + 1) + n ≡ from + suc n = omega arith in
      ap (λ k. get_or (piece from ++ flat_map piece (range_with_len (from + 1) count)) k d) at
      ∙ get_or-append-add (piece from) (flat_map piece (range_with_len (from + 1) count)) (80 * n + t) d
      ∙ get_or-pieces (from + 1) count n t d (omega arith) inside ∙ ap (λ k. get_or (piece k) t d) next

-- ---- the parts of a frame
module _ {A : Type 0} (body : (ℕ → Cx) → ℕ → A) where
  length-preamble : length (preamble_of body) ≡ 320
  length-preamble =
      let short : length (short_times (body (by_bin short_carrier))) ≡ 160 = length-map-range_with_len (λ time. body (by_bin short_carrier) (time % 64)) 0 160 in
      let long : length (long_times (body (by_bin long_carrier))) ≡ 160 = length-map-range_with_len (λ time. body (by_bin long_carrier) ((time + 32) % 64)) 0 160 in
      omega (arith, length-append (short_times (body (by_bin short_carrier))) (long_times (body (by_bin long_carrier))), short, long)

  length-symbol : (rate : Rate) (seed : ℕ) (psdu : List ℕ) (n : ℕ) → length (frame_symbol body rate seed psdu n) ≡ 80
  length-symbol rate seed psdu n = length-map-range_with_len (λ time. body (frame_bin rate seed psdu n) ((time + 48) % 64)) 0 80

  pub length-frame : (rate : Rate) (seed : ℕ) (psdu : List ℕ)
      → length (frame_of body rate seed psdu) ≡ 400 + 80 * symbol_count (row_of rate).field_bits (length psdu)
  unfolding frame_of
  length-frame rate seed psdu =
      let count = symbol_count (row_of rate).field_bits (length psdu) in
      let symbols = flat_map (frame_symbol body rate seed psdu) (range_with_len 0 (count + 1)) in
      omega (arith, length-append (preamble_of body) symbols, length-preamble, length-pieces (frame_symbol body rate seed psdu) (length-symbol rate seed psdu) 0 (count + 1))

  pub in_preamble : (rate : Rate) (seed : ℕ) (psdu : List ℕ) (t : ℕ) (d : A) → t < 320
      → get_or (frame_of body rate seed psdu) t d ≡ get_or (preamble_of body) t d
  unfolding frame_of
  in_preamble rate seed psdu t d inside =
      get_or_append_left (preamble_of body) _ d t (omega (arith, length-preamble))

  pub in_symbol : (rate : Rate) (seed : ℕ) (psdu : List ℕ) (n t : ℕ) (d : A) → n ≤ symbol_count (row_of rate).field_bits (length psdu) → t < 80
      → get_or (frame_of body rate seed psdu) (320 + 80 * n + t) d ≡ body (frame_bin rate seed psdu n) ((t + 48) % 64)
  unfolding frame_of
  in_symbol rate seed psdu n t d sent inside =
      let count = symbol_count (row_of rate).field_bits (length psdu) in
      let symbols = flat_map (frame_symbol body rate seed psdu) (range_with_len 0 (count + 1)) in
      let at : 320 + 80 * n + t ≡ length (preamble_of body) + (80 * n + t) = omega (arith, length-preamble) in
      let first : 0 + n ≡ n = omega arith in
      ap (λ k. get_or (preamble_of body ++ symbols) k d) at
      ∙ get_or-append-add (preamble_of body) symbols (80 * n + t) d
      ∙ get_or-pieces (frame_symbol body rate seed psdu) (length-symbol rate seed psdu) 0 (count + 1) n t d (omega arith) inside
      ∙ ap (λ k. get_or (frame_symbol body rate seed psdu k) t d) first
      ∙ get_or-map-range_with_len (λ time. body (frame_bin rate seed psdu n) ((time + 48) % 64)) 0 80 t t d inside (omega arith)
