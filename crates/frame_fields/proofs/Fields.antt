-- What the bits of a DATA field up to the end of its tail say.
use Rattle.std.proofs.Common.{◌≡◌, ℕ, ◌+◌, ◌-◌, ◌*◌, ◌<◌, ◌≤◌, List, ◌++◌, length, get_or, take, drop, replicate, ap, sym, ◌∙◌, refl, arith, lit<}
use Rattle.std.proofs.lemmas.List.{ext_get_or, take_at, length-append, length-replicate, length-take, length-take-le, get_or-take, get_or-drop, get_or_append_left, get_or-append_right, get_or-append-add, get_or-replicate, length-drop}
use Rattle.std.proofs.lemmas.List.Elements.{All-append, All-take, All-replicate}
use Rattle.std.proofs.lemmas.List.FromFn.{length-map-range_with_len, get_or-map-range_with_len}
use Rattle.bit_lists.specs.Bits.{AreBits, IsBit, bits_of_octets, exclusive_or}
use Rattle.bit_lists.proofs.EightBits.{length-bits_of_octets}
use Rattle.bit_lists.proofs.BitFacts.{AreBits-bits_of_octets}
use Rattle.data_field.specs.Stages.{field_at, kept_at}
use Rattle.data_field.specs.Field.{data_field, field_length, plain_field, with_tail}
use Rattle.kept_weights.specs.Weights.{distance_over}
use Rattle.kept_weights.proofs.Fronts.{distance_over-take}
use Rattle.kept_weights.proofs.StepWeights.{length-kept_code}
use Rattle.ofdm_scrambler.specs.Sequence.{IsSeed, scrambled, scrambler_bit, scrambler_sequence}
use Rattle.ofdm_scrambler.proofs.LastSeven.{AreBits-scrambled, IsBit-scrambler_bit, scrambled_at}
use Rattle.puncture_map.specs.Kept.{kept_count, kept_code}
use Rattle.puncture_map.proofs.Counts.{kept_count-symbols}
use Rattle.puncture_map.proofs.Ranks.{kept_count-rises}
use Rattle.rate_table.specs.declared.Rate.{Rate}
use Rattle.rate_table.specs.declared.Rate.TheVariants.{R6, R9, R12, R18, R24, R36, R48, R54}
use Rattle.rate_table.specs.Symbols.{bits_through_tail, symbol_count, tail_place}
use Rattle.rate_table.specs.Table.{row_of}
use Rattle.rate_table.proofs.ByRate.{flip_bound_by_code_rate}
use Rattle.survivor_memory.specs.Nearest.{IsClosed}
use Rattle.viterbi_lanes.specs.Decisions.{AreNearlyKeptCode, changes}
use Rattle.frame_fields.specs.Fields.{NamesFront, flips}

-- a field goes on to the end of its tail at least
pub field_reaches : (rate : Rate) (octets : ℕ) → bits_through_tail octets ≤ field_length (row_of rate).field_bits octets
field_reaches R6 octets = omega arith
field_reaches R9 octets = omega arith
field_reaches R12 octets = omega arith
field_reaches R18 octets = omega arith
field_reaches R24 octets = omega arith
field_reaches R36 octets = omega arith
field_reaches R48 octets = omega arith
field_reaches R54 octets = omega arith

-- so there are enough decisions
pub enough_decisions : (rate : Rate) (octets : ℕ) → kept_count (row_of rate).code_rate (bits_through_tail octets) ≤ symbol_count (row_of rate).field_bits octets * (row_of rate).coded_bits
enough_decisions rate octets =
    rw (kept_count-symbols rate (row_of rate).code_rate (symbol_count (row_of rate).field_bits octets) refl)
    at (kept_count-rises (row_of rate).code_rate (bits_through_tail octets) (field_length (row_of rate).field_bits octets) (field_reaches rate octets))

-- bits up to a place, and a tail behind
abbrev pub fronted : ℕ → List ℕ → List ℕ
fronted place bits = take place bits ++ replicate 6 0

length-fronted : (place : ℕ) (bits : List ℕ) → place ≤ length bits → length (fronted place bits) ≡ place + 6
length-fronted place bits within =
    length-append (take place bits) (replicate 6 0) ∙ ap (λ n. n + 6) (length-take-le place bits within)

front_is : (place : ℕ) (bits : List ℕ) → place + 6 ≤ length bits → take (place + 6) (with_tail place bits) ≡ fronted place bits
front_is place bits within =
    take_at (fronted place bits) (drop (place + 6) bits) (place + 6) (length-fronted place bits (omega arith))

fronted_at : (place : ℕ) (bits : List ℕ) → place ≤ length bits → (k : ℕ) → k < place → get_or (fronted place bits) k 0 ≡ get_or bits k 0
fronted_at place bits within k before =
    get_or_append_left (take place bits) (replicate 6 0) 0 k (omega (arith, length-take-le place bits within)) ∙ get_or-take place bits k 0 before

-- it ends in six zeros
closed_front : (place : ℕ) (bits : List ℕ) → place ≤ length bits → AreBits bits → IsClosed (place + 6) (fronted place bits)
closed_front place bits within are_bits = record {
  long = length-fronted place bits within;
  bits = All-append IsBit (take place bits) (replicate 6 0) (All-take IsBit place bits are_bits) (All-replicate IsBit 6 0 (lit< tt));
  tail = λ k inside last.
      get_or-append_right (take place bits) (replicate 6 0) place k 0 (length-take-le place bits within) (omega arith)
      ∙ get_or-replicate 6 (k - place) 0 0 (omega arith);
}

-- the bits of a field before scrambling
length-plain : (field_bits : ℕ) (psdu : List ℕ) → tail_place (length psdu) ≤ field_length field_bits (length psdu) → length (plain_field field_bits psdu) ≡ field_length field_bits (length psdu)
length-plain field_bits psdu within =
    let pad : List ℕ = replicate (field_length field_bits (length psdu) - tail_place (length psdu)) 0 in
    omega (arith, length-append (replicate 16 0) (bits_of_octets psdu ++ pad), length-append (bits_of_octets psdu) pad, length-bits_of_octets psdu, length-replicate {A = ℕ} (field_length field_bits (length psdu) - tail_place (length psdu)) 0)

plain_service : (field_bits : ℕ) (psdu : List ℕ) (k : ℕ) → k < 16 → get_or (plain_field field_bits psdu) k 0 ≡ 0
plain_service field_bits psdu k within =
    let pad : List ℕ = replicate (field_length field_bits (length psdu) - tail_place (length psdu)) 0 in
    get_or_append_left (replicate 16 0) (bits_of_octets psdu ++ pad) 0 k within ∙ get_or-replicate 16 k 0 0 within

plain_psdu : (field_bits : ℕ) (psdu : List ℕ) (i : ℕ) → i < 8 * length psdu → get_or (plain_field field_bits psdu) (16 + i) 0 ≡ get_or (bits_of_octets psdu) i 0
plain_psdu field_bits psdu i within =
    let pad : List ℕ = replicate (field_length field_bits (length psdu) - tail_place (length psdu)) 0 in
    get_or-append-add (replicate 16 0) (bits_of_octets psdu ++ pad) i 0
    ∙ get_or_append_left (bits_of_octets psdu) pad 0 i (omega (arith, length-bits_of_octets psdu))

-- the bits of a field up to the end of its tail
abbrev pub field_front : ℕ → ℕ → List ℕ → List ℕ
field_front field_bits seed psdu = fronted (tail_place (length psdu)) (scrambled seed (plain_field field_bits psdu))

-- there are so many bits of a field
record Reaches (field_bits seed : ℕ) (psdu : List ℕ) : Type 0 where
  plain : length (plain_field field_bits psdu) ≡ field_length field_bits (length psdu)
  long : length (scrambled seed (plain_field field_bits psdu)) ≡ field_length field_bits (length psdu)
  through : tail_place (length psdu) + 6 ≤ field_length field_bits (length psdu)

reaches : (rate : Rate) (seed : ℕ) (psdu : List ℕ) → Reaches (row_of rate).field_bits seed psdu
reaches rate seed psdu =
    let through : tail_place (length psdu) + 6 ≤ field_length (row_of rate).field_bits (length psdu) = field_reaches rate (length psdu) in
    let plain = length-plain (row_of rate).field_bits psdu (omega arith) in
    record {
      plain = plain;
      long = length-map-range_with_len (λ n. exclusive_or (get_or (plain_field (row_of rate).field_bits psdu) n 0) (scrambler_bit seed n)) 0 (length (plain_field (row_of rate).field_bits psdu)) ∙ plain;
      through = through;
    }

pub front_of_field : (rate : Rate) (seed : ℕ) (psdu : List ℕ) → take (bits_through_tail (length psdu)) (data_field (row_of rate).field_bits seed psdu) ≡ field_front (row_of rate).field_bits seed psdu
front_of_field rate seed psdu =
    let r = reaches rate seed psdu in
    front_is (tail_place (length psdu)) (scrambled seed (plain_field (row_of rate).field_bits psdu)) (omega (arith, r.long, r.through))

-- a bit of the front before the tail
front_at : (rate : Rate) (seed : ℕ) (psdu : List ℕ) (k : ℕ) → k < tail_place (length psdu) → get_or (field_front (row_of rate).field_bits seed psdu) k 0 ≡ exclusive_or (get_or (plain_field (row_of rate).field_bits psdu) k 0) (scrambler_bit seed k)
front_at rate seed psdu k before =
    let r = reaches rate seed psdu in
    let field_bits = (row_of rate).field_bits in
    fronted_at (tail_place (length psdu)) (scrambled seed (plain_field field_bits psdu)) (omega (arith, r.long, r.through)) k before
    ∙ scrambled_at seed (plain_field field_bits psdu) k (omega (arith, r.plain, r.through))

length-front : (rate : Rate) (seed : ℕ) (psdu : List ℕ) → length (field_front (row_of rate).field_bits seed psdu) ≡ bits_through_tail (length psdu)
length-front rate seed psdu =
    let r = reaches rate seed psdu in
    length-fronted (tail_place (length psdu)) (scrambled seed (plain_field (row_of rate).field_bits psdu)) (omega (arith, r.long, r.through))

-- how many bits a field has, and its kept code
length-tailed : (place : ℕ) (bits : List ℕ) → place + 6 ≤ length bits → length (with_tail place bits) ≡ length bits
length-tailed place bits within =
    omega (
      arith,
      length-append (take place bits ++ replicate 6 0) (drop (place + 6) bits),
      length-append (take place bits) (replicate 6 0),
      length-take-le place bits (omega arith),
      length-replicate {A = ℕ} 6 0,
      length-drop (place + 6) bits,
    )

pub length-field : (rate : Rate) (seed : ℕ) (psdu : List ℕ) → length (field_at rate seed psdu) ≡ field_length (row_of rate).field_bits (length psdu)
length-field rate seed psdu =
    let r = reaches rate seed psdu in
    length-tailed (tail_place (length psdu)) (scrambled seed (plain_field (row_of rate).field_bits psdu)) (omega (arith, r.long, r.through)) ∙ r.long

pub length-kept : (rate : Rate) (seed : ℕ) (psdu : List ℕ) → length (kept_at rate seed psdu) ≡ symbol_count (row_of rate).field_bits (length psdu) * (row_of rate).coded_bits
length-kept rate seed psdu =
    length-kept_code (row_of rate).code_rate (field_at rate seed psdu)
    ∙ ap (kept_count (row_of rate).code_rate) (length-field rate seed psdu)
    ∙ kept_count-symbols rate (row_of rate).code_rate (symbol_count (row_of rate).field_bits (length psdu)) refl

-- the front ends in six zeros
pub front_is_closed : (rate : Rate) (seed : ℕ) (psdu : List ℕ) → IsClosed (bits_through_tail (length psdu)) (field_front (row_of rate).field_bits seed psdu)
front_is_closed rate seed psdu =
    let r = reaches rate seed psdu in
    closed_front (tail_place (length psdu)) (scrambled seed (plain_field (row_of rate).field_bits psdu)) (omega (arith, r.long, r.through)) (AreBits-scrambled seed (plain_field (row_of rate).field_bits psdu))

zero_changed : (a z : ℕ) → a ≡ 0 → z < 2 → z ≡ exclusive_or a z
zero_changed a z none small = omega arith

-- its first seven bits name the seed, since SERVICE is 0
pub front_names : (rate : Rate) (seed : ℕ) (psdu : List ℕ) → IsSeed seed → NamesFront seed (field_front (row_of rate).field_bits seed psdu)
front_names rate seed psdu is_seed =
    let front = field_front (row_of rate).field_bits seed psdu in
    let long : length (take 7 front) ≡ 7 = length-take-le 7 front (omega (arith, length-front rate seed psdu)) in
    record {
      seven_bits = is_seed.1;
      begins = ext_get_or 0 (scrambler_sequence seed 7) (take 7 front) (sym long)
          (λ i within.
          get_or-map-range_with_len (scrambler_bit seed) 0 7 i i 0 within (omega arith)
          ∙ zero_changed (get_or (plain_field (row_of rate).field_bits psdu) i 0) (scrambler_bit seed i) (plain_service (row_of rate).field_bits psdu i (omega arith)) (IsBit-scrambler_bit seed i)
          ∙ sym (front_at rate seed psdu i (omega arith))
          ∙ sym (get_or-take 7 front i 0 within));
    }

changed_twice : (a b z : ℕ) → a ≡ b → b < 2 → b ≡ exclusive_or (exclusive_or a z) z
changed_twice a b z same small = omega arith

-- and its octets, once the exclusive or is undone, are those of the PSDU
pub front_has_psdu : (rate : Rate) (seed : ℕ) (psdu : List ℕ) → bits_of_octets psdu ≡ take (8 * length psdu) (drop 16 (scrambled seed (field_front (row_of rate).field_bits seed psdu)))
front_has_psdu rate seed psdu =
    let front = field_front (row_of rate).field_bits seed psdu in
    let undone = scrambled seed front in
    let long : length undone ≡ bits_through_tail (length psdu) = length-map-range_with_len (λ n. exclusive_or (get_or front n 0) (scrambler_bit seed n)) 0 (length front) ∙ length-front rate seed psdu in
    let count : length (take (8 * length psdu) (drop 16 undone)) ≡ 8 * length psdu = length-take-le (8 * length psdu) (drop 16 undone) (omega (arith, length-drop 16 undone, long)) in
    ext_get_or 0 (bits_of_octets psdu) (take (8 * length psdu) (drop 16 undone)) (length-bits_of_octets psdu ∙ sym count)
    (λ i within.
    let below : i < 8 * length psdu = omega (arith, length-bits_of_octets psdu) in
    changed_twice (get_or (plain_field (row_of rate).field_bits psdu) (16 + i) 0) (get_or (bits_of_octets psdu) i 0) (scrambler_bit seed (16 + i)) (plain_psdu (row_of rate).field_bits psdu i below) (AreBits-bits_of_octets psdu i 0 within)
    ∙ sym (ap (λ a. exclusive_or a (scrambler_bit seed (16 + i))) (front_at rate seed psdu (16 + i) (omega arith)))
    ∙ sym (scrambled_at seed front (16 + i) (omega (arith, length-front rate seed psdu)))
    ∙ sym (get_or-drop 16 undone i 0)
    ∙ sym (get_or-take (8 * length psdu) (drop 16 undone) i 0 below))

-- what differs from the kept code of a field, up to its tail, differs from that of its front
pub flips_are_changes : (rate : Rate) (seed : ℕ) (psdu decisions : List ℕ) → flips rate seed psdu decisions ≡ changes (row_of rate).code_rate (bits_through_tail (length psdu)) (field_front (row_of rate).field_bits seed psdu) decisions
flips_are_changes rate seed psdu decisions =
    let code_rate = (row_of rate).code_rate in
    let steps = bits_through_tail (length psdu) in
    let field = field_at rate seed psdu in
    let within : steps ≤ length field = omega (arith, length-take steps field, ap length (front_of_field rate seed psdu), length-front rate seed psdu) in
    distance_over-take code_rate steps field decisions within
    ∙ ap (λ u. distance_over (kept_count code_rate steps) (kept_code code_rate u) decisions) (front_of_field rate seed psdu)

-- so few flips leave decisions that are nearly the kept code of the front
pub nearly_front : (rate : Rate) (seed octets : ℕ) (psdu decisions : List ℕ) → length psdu ≡ octets → AreBits decisions → flips rate seed psdu decisions ≤ (row_of rate).flip_bound → AreNearlyKeptCode (row_of rate).code_rate (bits_through_tail octets) (field_front (row_of rate).field_bits seed psdu) decisions
nearly_front rate seed octets psdu decisions long bits few =
    rw (← long)
    (record {
      bits = bits;
      closed = front_is_closed rate seed psdu;
      few = omega (arith, few, flips_are_changes rate seed psdu decisions, flip_bound_by_code_rate rate);
    })

pub undone_psdu : (rate : Rate) (seed number octets : ℕ) (psdu bits : List ℕ) → length psdu ≡ octets → number ≡ seed → bits ≡ field_front (row_of rate).field_bits seed psdu → bits_of_octets psdu ≡ take (8 * octets) (drop 16 (scrambled number bits))
undone_psdu rate seed number octets psdu bits long same front =
    rw (← long, same, front) (front_has_psdu rate seed psdu)
