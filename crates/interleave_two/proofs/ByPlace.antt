-- Arrays that are read place by place.
use Rattle.std.proofs.Common.{inl, inr, ◌≡◌, ℕ, ◌<◌, ◌≤◌, List, length, take, slice_index, sym, ap, ◌∙◌, arith}
use Rattle.std.proofs.lemmas.Bool.{cases_lt}
use Rattle.std.proofs.lemmas.List.{get_or-take}
use Rattle.std.proofs.lemmas.List.Elements.{All-from_get_or}
use Rattle.std.proofs.lemmas.List.FromFn.{get_or-map-range_with_len}
use Rattle.bit_lists.specs.Bits.{IsBit, AreBits}
use Rattle.bit_lists.proofs.BitFacts.{IsBit-slice_index}
use Rattle.bit_lists.proofs.ByPlace.{map-agree, take-by_place}
use Rattle.rate_table.specs.declared.Rate.{Rate}
use Rattle.rate_table.specs.Table.{row_of}
use Rattle.interleave_two.specs.Place.{interleaved_place, source_of, interleaved, deinterleaved}
use Rattle.interleave_two.proofs.Ways.{interleaved_place-lt, source_of-lt, source_of-interleaved_place, interleaved_place-source_of}

-- what goes to its place is read back there, and the other way round
pub deinterleaved-by_place : (rate : Rate) (bits places : List ℕ) → (row_of rate).coded_bits ≤ length bits → ((k : ℕ) → k < (row_of rate).coded_bits → slice_index places (interleaved_place rate k) ≡ slice_index bits k) → deinterleaved rate places ≡ take (row_of rate).coded_bits bits
deinterleaved-by_place rate bits places within read =
    sym (take-by_place (λ k. slice_index places (interleaved_place rate k)) (row_of rate).coded_bits bits within (λ k below. sym (read k below)))

pub interleaved-by_place : (rate : Rate) (bits order : List ℕ) → (row_of rate).coded_bits ≤ length bits → ((k : ℕ) → k < (row_of rate).coded_bits → slice_index order k ≡ slice_index bits (interleaved_place rate k)) → interleaved rate order ≡ take (row_of rate).coded_bits bits
interleaved-by_place rate bits order within read =
    sym (take-by_place (λ j. slice_index order (source_of rate j)) (row_of rate).coded_bits bits within
    (λ j below. sym (read (source_of rate j) (source_of-lt rate j below) ∙ ap (slice_index bits) (interleaved_place-source_of rate j below))))

-- the two lists undo each other
pub deinterleaved-interleaved : (rate : Rate) (bits : List ℕ) → (row_of rate).coded_bits ≤ length bits → deinterleaved rate (interleaved rate bits) ≡ take (row_of rate).coded_bits bits
deinterleaved-interleaved rate bits within =
    deinterleaved-by_place rate bits (interleaved rate bits) within
    (λ k below.
    get_or-map-range_with_len (λ j. slice_index bits (source_of rate j)) 0 (row_of rate).coded_bits (interleaved_place rate k) (interleaved_place rate k) 0 (interleaved_place-lt rate k below) (omega arith)
    ∙ ap (slice_index bits) (source_of-interleaved_place rate k below))

pub interleaved-deinterleaved : (rate : Rate) (bits : List ℕ) → (row_of rate).coded_bits ≤ length bits → interleaved rate (deinterleaved rate bits) ≡ take (row_of rate).coded_bits bits
interleaved-deinterleaved rate bits within =
    interleaved-by_place rate bits (deinterleaved rate bits) within
    (λ k below. get_or-map-range_with_len (λ m. slice_index bits (interleaved_place rate m)) 0 (row_of rate).coded_bits k k 0 below (omega arith))

-- a list that is read from bits at its front, and is 0 behind
pub AreBits-by_place : (bits : List ℕ) (from : ℕ → ℕ) (n : ℕ) (xs : List ℕ) → AreBits bits → ((m : ℕ) → m < n → slice_index xs m ≡ slice_index bits (from m)) → ((m : ℕ) → n ≤ m → slice_index xs m ≡ 0) → AreBits xs
AreBits-by_place bits from n xs are read rest =
    All-from_get_or IsBit xs 0
    (λ m _. elim (cases_lt m n) [
      | inl below ↦ (let bit = IsBit-slice_index bits (from m) are in omega (arith, read m below))
      | inr past ↦ omega (arith, rest m past)
    ])

-- the entries behind a symbol's play no part
pub interleaved-take : (rate : Rate) (bits : List ℕ) → interleaved rate bits ≡ interleaved rate (take (row_of rate).coded_bits bits)
interleaved-take rate bits =
    let n = (row_of rate).coded_bits in
    map-agree (λ j. slice_index bits (source_of rate j)) (λ j. slice_index (take n bits) (source_of rate j)) n
    (λ j below. sym (get_or-take n bits (source_of rate j) 0 (source_of-lt rate j below)))

pub deinterleaved-take : (rate : Rate) (bits : List ℕ) → deinterleaved rate bits ≡ deinterleaved rate (take (row_of rate).coded_bits bits)
deinterleaved-take rate bits =
    let n = (row_of rate).coded_bits in
    map-agree (λ k. slice_index bits (interleaved_place rate k)) (λ k. slice_index (take n bits) (interleaved_place rate k)) n
    (λ k below. sym (get_or-take n bits (interleaved_place rate k) 0 (interleaved_place-lt rate k below)))
