-- A symbol's decisions, from those of each data number.
use Rattle.std.proofs.Common.{◌≡◌, ℕ, ◌+◌, ◌*◌, ◌/◌, ◌%◌, ◌<◌, ◌≤◌, List, length, take, drop, slice_index, ap, sym, ◌∙◌, inl, inr, arith}
use Rattle.std.proofs.Math.Nat.{mul-le-mul_left}
use Rattle.std.proofs.lemmas.Bool.{cases_lt}
use Rattle.std.proofs.lemmas.List.{get_or-drop, get_or-take, take_all}
use Rattle.bit_lists.proofs.ByPlace.{take-by_place}
use Rattle.fixed_complex.specs.declared.Cx.{Cx}
use Rattle.rate_table.specs.declared.Rate.{Rate}
use Rattle.rate_table.specs.Table.{row_of}
use Rattle.rate_table.proofs.ByRate.{by_rate, coded_bits_by_modulation, width_is}
use Rattle.carrier_equaliser.specs.Decided.{decided_at, decision_at, interleaved_decisions}

-- a carrier has coded bits
pub width_above : (rate : Rate) → 0 < (row_of rate).bits_per_carrier
width_above = by_rate (λ rate. 0 < (row_of rate).bits_per_carrier) (omega arith) (omega arith) (omega arith) (omega arith) (omega arith) (omega arith) (omega arith) (omega arith)

-- the entry of a list of groups at a place, by the group that it is in
pub by_group : (group : ℕ → List ℕ) (bits : List ℕ) (width size : ℕ) → 0 < width → size ≡ 48 * width → ((k : ℕ) → k < 48 → take width (group k) ≡ take width (drop (width * k) bits)) → (place : ℕ) → place < size → slice_index bits place ≡ slice_index (group (place / width)) (place % width)
by_group group bits width size above count same place lt =
    let k = place / width in
    let r = place % width in
    let split : place ≡ width * k + r = omega arith in
    let inside : r < width = omega arith in
    let most : k < 48 = below k r width size (omega arith) count in
    ap (slice_index bits) split
    ∙ sym (get_or-drop (width * k) bits r 0)
    ∙ sym (get_or-take width (drop (width * k) bits) r 0 inside)
    ∙ sym (ap (λ g. slice_index g r) (same k most))
    ∙ get_or-take width (group k) r 0 inside
  where
    below : (k r width size : ℕ) → width * k + r < size → size ≡ 48 * width → k < 48
    below k r width size lt count =
        elim (cases_lt k 48) [
          | inl inside ↦ inside
          | inr past ↦ let most : width * 48 ≤ width * k = mul-le-mul_left width past in absurd (omega arith)
        ]

-- where the bits of each data number are decided, so are those of the symbol
pub groups_joined : (rate : Rate) (estimate symbol : List Cx) (bits : List ℕ) → length bits ≡ (row_of rate).coded_bits → ((k : ℕ) → k < 48 → take (row_of rate).bits_per_carrier (decided_at rate estimate symbol k) ≡ take (row_of rate).bits_per_carrier (drop ((row_of rate).bits_per_carrier * k) bits)) → interleaved_decisions rate estimate symbol ≡ bits
unfolding interleaved_decisions
groups_joined rate estimate symbol bits long same =
    let width = (row_of rate).bits_per_carrier in
    let size = (row_of rate).coded_bits in
    let count : size ≡ 48 * width = coded_bits_by_modulation rate ∙ ap (λ w. 48 * w) (sym (width_is rate)) in
    sym (take-by_place (decision_at rate estimate symbol) size bits (omega (arith, long)) (by_group (decided_at rate estimate symbol) bits width size (width_above rate) count same))
    ∙ take_all size bits (omega (arith, long))
