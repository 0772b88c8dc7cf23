-- Values have one soft field; full values have that of hard decisions, and where a sent field costs little it is that.
use Rattle.std.proofs.Common.{◌≡◌, ℕ, ◌≤◌, List, length, map, take, get_or, ap, refl, sym, ◌∙◌, arith}
use Rattle.std.proofs.lemmas.List.{get_or-take, length-take, length-take-le}
use Rattle.std.proofs.lemmas.List.Elements.{All-take}
use Rattle.bit_lists.specs.Bits.{AreBits, IsBit, octets_of_bits}
use Rattle.bit_lists.proofs.EightBits.{octets_of_bits_of_octets}
use Rattle.data_field.specs.Stages.{field_at}
use Rattle.frame_fields.specs.Fields.{psdu_in}
use Rattle.frame_fields.proofs.Fields.{field_front, front_has_psdu, front_is_closed, front_names, front_of_field}
use Rattle.kept_weights.specs.Decisions.{cost_of_decisions, costs_of_steps, decision_cost}
use Rattle.kept_weights.proofs.Costs.{cost_of_decisions-by_places}
use Rattle.kept_weights.proofs.Fronts.{kept_code-take}
use Rattle.kept_weights.proofs.Nearest.{length-costs_of_steps, soft_cost, soft_repaired}
use Rattle.kept_weights.proofs.Scaled.{nearest-scaled}
use Rattle.kept_weights.proofs.Sums.{sum_below-same}
use Rattle.ofdm_scrambler.proofs.Fronts.{one_number, some_number}
use Rattle.puncture_map.specs.Kept.{kept_code, kept_count}
use Rattle.rate_table.specs.declared.CodeRate.{CodeRate}
use Rattle.rate_table.specs.declared.Rate.{Rate}
use Rattle.rate_table.specs.Symbols.{bits_through_tail}
use Rattle.rate_table.specs.Table.{row_of}
use Rattle.survivor_memory.specs.Costs.{cost}
use Rattle.survivor_memory.specs.Nearest.{IsNearest}
use Rattle.survivor_memory.proofs.Existing.{some_nearest}
use Rattle.survivor_memory.proofs.Order.{one_first}
use Rattle.viterbi_lanes.specs.Decisions as hard
use Rattle.viterbi_lanes.specs.Marks as hard_marks
use Rattle.viterbi_lanes.proofs.Decisions as decided
use Rattle.viterbi_lanes.proofs.Distances.{nearest_by_distance}
use Rattle.viterbi_lanes.proofs.Nearest.{one_nearest_to}
use Rattle.soft_trellis.specs.Fields.{sent_cost}
use Rattle.soft_trellis.specs.Laws.{FullValues, LittleCost, OneSoftField, SomeSoftField, full_values}
use Rattle.soft_trellis.specs.Marks.{IsCheapest, costs_of}
use Rattle.soft_trellis.specs.Values.{marks_of}
use Rattle.soft_trellis.proofs.Marks.{marks_of_costs}

-- there is one list that costs least
one_cheapest : (rate : CodeRate) (values : List ℕ) (steps : ℕ) (u v : List ℕ) (d e : ℕ) → IsCheapest (marks_of rate values steps) u d → IsCheapest (marks_of rate values steps) v e → (u ≡ v) × (d ≡ e)
one_cheapest rate values steps = one_first _ (cost (map costs_of (marks_of rate values steps)))

pub some_field : SomeSoftField
some_field rate octets values =
    let code_rate = (row_of rate).code_rate in
    let steps = bits_through_tail octets in
    let pairs = map costs_of (marks_of code_rate values steps) in
    let count : length pairs ≡ steps = ap length (marks_of_costs code_rate values steps) ∙ length-costs_of_steps code_rate 15 steps values in
    let cheapest = some_nearest (cost pairs) (length pairs) (omega (arith, count)) in
    let bits = cheapest.0 in
    let closed = cheapest.1.1.of_kind in
    let named = some_number (take 7 bits) (All-take IsBit 7 bits closed.bits) (length-take-le 7 bits (omega (arith, closed.long, count))) in (
      named.0,
      (
        psdu_in octets named.0 bits,
        (
          cheapest.1.0,
          record {
            bits = bits;
            cheapest = cheapest.1.1;
            names = record { seven_bits = named.1.0; begins = named.1.1 };
            psdu_is = refl;
          },
        ),
      ),
    )

pub one_field : OneSoftField
one_field rate octets values m n psdu other d e first second =
    let same = one_cheapest (row_of rate).code_rate values (bits_through_tail octets) first.bits second.bits d e first.cheapest second.cheapest in
    let number = one_number m n first.names.seven_bits second.names.seven_bits (first.names.begins ∙ ap (take 7) same.0 ∙ sym second.names.begins) in (
      number,
      (
        first.psdu_is ∙ ap (λ k. psdu_in octets k first.bits) number ∙ ap (psdu_in octets n) same.0 ∙ sym second.psdu_is,
        same.1,
      ),
    )

-- the nearest list by distance is the nearest by cost
nearest_by_cost : (rate : CodeRate) (decisions : List ℕ) (steps : ℕ) (u : List ℕ) (least : ℕ) → 6 ≤ steps → AreBits decisions → hard_marks.IsNearestTo (hard.marks_of rate decisions steps) u least → IsNearest (costs_of_steps rate 1 decisions steps) u least
nearest_by_cost rate decisions steps u least some bits nearest =
    let marks = hard.marks_of rate decisions steps in
    let pairs = map hard_marks.costs_of marks in
    let same : pairs ≡ costs_of_steps rate 1 decisions steps = decided.marks_of_costs rate decisions bits steps in
    let count : length pairs ≡ steps = ap length same ∙ length-costs_of_steps rate 1 steps decisions in
    let cheapest = some_nearest (cost pairs) (length pairs) (omega (arith, count)) in
    let one = one_nearest_to marks u cheapest.0 least cheapest.1.0 nearest (nearest_by_distance marks cheapest.0 cheapest.1.0 cheapest.1.1) in
    rw (← same, one.0, one.1) cheapest.1.1

pub full_field : FullValues
full_field rate octets decisions number psdu least bits field =
    let code_rate = (row_of rate).code_rate in
    let steps = bits_through_tail octets in
    let by_cost = nearest_by_cost code_rate decisions steps field.bits least (omega arith) bits field.nearest in
    record {
      bits = field.bits;
      cheapest = rw (marks_of_costs code_rate (full_values decisions) steps) (nearest-scaled code_rate 15 steps least decisions field.bits bits (omega arith) by_cost);
      names = field.names;
      psdu_is = field.psdu_is;
    }

-- a cost over the first places is that of the bits in them
cost_of_front : (full : ℕ) (decisions bits : List ℕ) (count : ℕ) → cost_of_decisions full decisions count bits ≡ cost_of_decisions full decisions count (take count bits)
cost_of_front full decisions bits count =
    cost_of_decisions-by_places full decisions count bits
    ∙ sum_below-same (λ k. decision_cost full (get_or decisions k 0) (get_or bits k 0)) (λ k. decision_cost full (get_or decisions k 0) (get_or (take count bits) k 0)) count (λ k lt. ap (decision_cost full (get_or decisions k 0)) (sym (get_or-take count bits k 0 lt)))
    ∙ sym (cost_of_decisions-by_places full decisions count (take count bits))

-- what the kept code of a field costs, up to its tail, is what that of its front costs
pub sent_cost_of_front : (rate : Rate) (seed : ℕ) (psdu values : List ℕ) → sent_cost rate seed psdu values ≡ cost_of_decisions 15 values (kept_count (row_of rate).code_rate (bits_through_tail (length psdu))) (kept_code (row_of rate).code_rate (field_front (row_of rate).field_bits seed psdu))
sent_cost_of_front rate seed psdu values =
    let code_rate = (row_of rate).code_rate in
    let steps = bits_through_tail (length psdu) in
    let field = field_at rate seed psdu in
    let count = kept_count code_rate steps in
    let front = field_front (row_of rate).field_bits seed psdu in
    let within : steps ≤ length field = omega (arith, length-take steps field, ap length (front_of_field rate seed psdu), (front_is_closed rate seed psdu).long) in
    cost_of_front 15 values (kept_code code_rate field) count
    ∙ ap (cost_of_decisions 15 values count) (kept_code-take code_rate steps field within ∙ ap (kept_code code_rate) (front_of_field rate seed psdu))

pub little_field : LittleCost
little_field rate seed psdu values is_seed octets little =
    let code_rate = (row_of rate).code_rate in
    let steps = bits_through_tail (length psdu) in
    let front = field_front (row_of rate).field_bits seed psdu in
    let by_front = sent_cost_of_front rate seed psdu values in
    let few = rw by_front at little in
    let pairs = costs_of_steps code_rate 15 values steps in
    let count : length pairs ≡ steps = length-costs_of_steps code_rate 15 steps values in
    let cheapest = some_nearest (cost pairs) (length pairs) (omega (arith, count)) in
    let closed = front_is_closed rate seed psdu in
    let list = soft_repaired code_rate steps cheapest.1.0 values cheapest.0 front closed few cheapest.1.1 in
    let least = soft_cost code_rate steps cheapest.1.0 values cheapest.0 front closed few cheapest.1.1 in
    record {
      bits = front;
      cheapest = rw (marks_of_costs code_rate values steps, by_front) (rw (list, least) at cheapest.1.1);
      names = front_names rate seed psdu is_seed;
      psdu_is = sym (octets_of_bits_of_octets psdu octets) ∙ ap octets_of_bits (front_has_psdu rate seed psdu);
    }
