-- The decisions of a symbol, data number by data number.
use Rattle.std.proofs.Common.{◌≡◌, ℕ, ◌+◌, ◌-◌, ◌*◌, ◌/◌, ◌%◌, ◌<◌, ◌≤◌, List, length, replicate, slice_index, take, refl, ap, sym, ◌∙◌, inl, inr, arith}
use Rattle.std.proofs.lemmas.Bool.{cases_lt}
use Rattle.bit_lists.specs.Bits.{AreBits}
use Rattle.bit_lists.proofs.ByPlace.{AreBits-zeros, slice_index-zeros, take-by_place}
use Rattle.fixed_complex.specs.declared.Cx.{Cx}
use Rattle.rate_table.specs.declared.Modulation.{Modulation}
use Rattle.rate_table.specs.declared.Modulation.TheVariants.{Bpsk, Qpsk, Qam16, Qam64}
use Rattle.rate_table.specs.declared.Rate.{Rate}
use Rattle.rate_table.specs.Table.{bits_of_modulation, row_of}
use Rattle.rate_table.proofs.ByRate.{coded_bits-le, coded_bits_by_modulation, width_is}
use Rattle.carrier_equaliser.specs.Decided.{decided_at, decision_at, interleaved_decisions}

-- the places of a data number's bits
record IsPlaced (width number place : ℕ) : Type 0 where
  more : (number + 1) * width ≡ number * width + width
  most : width ≤ 6
  quotient : number * width ≤ place → place < number * width + width → place / width ≡ number
  rest : number * width ≤ place → place < number * width + width → place % width ≡ place - number * width

placed : (modulation : Modulation) (number place : ℕ) → IsPlaced (bits_of_modulation modulation) number place
placed Bpsk number place = record {
  more = omega arith;
  most = omega arith;
  quotient = λ h k. omega arith;
  rest = λ h k. omega arith;
}
placed Qpsk number place = record {
  more = omega arith;
  most = omega arith;
  quotient = λ h k. omega arith;
  rest = λ h k. omega arith;
}
placed Qam16 number place = record {
  more = omega arith;
  most = omega arith;
  quotient = λ h k. omega arith;
  rest = λ h k. omega arith;
}
placed Qam64 number place = record {
  more = omega arith;
  most = omega arith;
  quotient = λ h k. omega arith;
  rest = λ h k. omega arith;
}

-- the decisions of the first data numbers at every rate of a modulation, and zeros behind them
pub record IsDecided (modulation : Modulation) (channels carriers : List Cx) (number : ℕ) (out : List ℕ) : Type 0 where
  pub long : length out ≡ 288
  pub decided : (rate : Rate) → (row_of rate).modulation ≡ modulation → (k : ℕ) → k < number * bits_of_modulation modulation → slice_index out k ≡ decision_at rate channels carriers k
  pub rest : (k : ℕ) → number * bits_of_modulation modulation ≤ k → slice_index out k ≡ 0
  pub bits : AreBits out

-- six entries are put at a place, and others stay
pub record ArePut (out next bits : List ℕ) (at : ℕ) : Type 0 where
  pub here : (j : ℕ) → j < 6 → slice_index next (at + j) ≡ slice_index bits j
  pub before : (k : ℕ) → k < at → slice_index next k ≡ slice_index out k
  pub behind : (k : ℕ) → at + 6 ≤ k → slice_index next k ≡ slice_index out k

-- the bits decided of a data number, and zeros behind them
pub record AreOfNumber (modulation : Modulation) (channels carriers : List Cx) (number : ℕ) (bits : List ℕ) : Type 0 where
  pub value : (rate : Rate) → (row_of rate).modulation ≡ modulation → bits ≡ decided_at rate channels carriers number
  pub others : (j : ℕ) → bits_of_modulation modulation ≤ j → slice_index bits j ≡ 0

module _ (modulation : Modulation) (channels carriers : List Cx) where
  pub decided_none : IsDecided modulation channels carriers 0 (replicate 288 0)
  decided_none = record {
    long = refl;
    decided = λ rate is k below. absurd (omega arith);
    rest = λ k _. slice_index-zeros 288 k;
    bits = AreBits-zeros 288;
  }

  pub decided_more : (number at : ℕ) (out next bits : List ℕ) → at ≡ number * bits_of_modulation modulation → length next ≡ 288 → AreBits next → ArePut out next bits at
      → AreOfNumber modulation channels carriers number bits → IsDecided modulation channels carriers number out → IsDecided modulation channels carriers (number + 1) next
  decided_more number at out next bits is_at long are put of_number so_far =
      let w = bits_of_modulation modulation in
      record {
        long = long;
        decided = λ rate is k below.
            let here = placed modulation number k in
            let width : (row_of rate).bits_per_carrier ≡ w = width_is rate ∙ ap bits_of_modulation is in
            elim (cases_lt k (number * w)) [
              | inl before ↦ put.before k (omega (arith, is_at, before)) ∙ so_far.decided rate is k before
              | inr from ↦
                  let within : k < number * w + w = omega (arith, here.more, below) in
                  let place : k ≡ at + (k - number * w) = omega (arith, is_at, from) in
                  ap (slice_index next) place
                  ∙ put.here (k - number * w) (omega (arith, here.most, within, from))
                  ∙ ap (λ list. slice_index list (k - number * w)) (of_number.value rate is)
                  ∙ rw (width, here.quotient from within, here.rest from within) refl
            ];
        rest = λ k past.
            let here = placed modulation number k in
            elim (cases_lt k (number * w + 6)) [
              | inl within ↦
                  let place : k ≡ at + (k - number * w) = omega (arith, is_at, here.more, past) in
                  ap (slice_index next) place
                  ∙ put.here (k - number * w) (omega (arith, within, here.more, past))
                  ∙ of_number.others (k - number * w) (omega (arith, here.more, past))
              | inr behind ↦ put.behind k (omega (arith, is_at, behind)) ∙ so_far.rest k (omega (arith, behind))
            ];
        bits = are;
      }

  pub decided_all : (out : List ℕ) → IsDecided modulation channels carriers 48 out → (rate : Rate) → (row_of rate).modulation ≡ modulation
      → take (row_of rate).coded_bits out ≡ interleaved_decisions rate channels carriers
  unfolding interleaved_decisions
  decided_all out all rate is =
      let width : 48 * bits_of_modulation modulation ≡ (row_of rate).coded_bits = sym (coded_bits_by_modulation rate ∙ ap (λ m. 48 * bits_of_modulation m) is) in
      take-by_place (decision_at rate channels carriers) (row_of rate).coded_bits out
      (omega (arith, coded_bits-le rate, all.long))
      (λ k lt. all.decided rate is k (omega (arith, width, lt)))

-- zeros behind the decisions of a modulation, which are those of a rate
pub zeros_behind : (rate : Rate) (modulation : Modulation) (out : List ℕ) → (row_of rate).modulation ≡ modulation → ((k : ℕ) → 48 * bits_of_modulation modulation ≤ k → slice_index out k ≡ 0)
    → (k : ℕ) → (row_of rate).coded_bits ≤ k → slice_index out k ≡ 0
zeros_behind rate modulation out is none k past =
    let width : 48 * bits_of_modulation modulation ≡ (row_of rate).coded_bits = sym (coded_bits_by_modulation rate ∙ ap (λ m. 48 * bits_of_modulation m) is) in
    none k (omega (arith, width, past))
