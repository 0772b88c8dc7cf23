-- A frame whose symbols are decided as they were sent is read as it was sent.
use Rattle.std.proofs.Common.{◌≡◌, ℕ, suc, ◌-◌, true, eqb, slice_index, ◌+◌, ◌*◌, ◌<◌, ◌≤◌, List, length, take, drop, refl, ap, sym, subst, ◌∙◌, arith}
use Rattle.std.specs.Prelude.{Ok}
use Rattle.std.proofs.lemmas.Bool.{agree_below_at, eqb-true}
use Rattle.std.proofs.lemmas.List.Elements.{All-take}
use Rattle.kept_weights.specs.Weights.{distance_over}
use Rattle.bit_lists.specs.Bits.{AreBits, AreOctets, IsBit}
use Rattle.conv_code.proofs.Coded.{AreBits-code_of}
use Rattle.puncture_map.specs.Kept.{kept_code, kept_count}
use Rattle.interleave_two.specs.Place.{symbol_bits}
use Rattle.ofdm_scrambler.specs.Sequence.{IsSeed}
use Rattle.rate_table.specs.declared.CodeRate.TheVariants.{Half}
use Rattle.rate_table.specs.declared.Rate.{Rate}
use Rattle.rate_table.specs.Symbols.{bits_through_tail, symbol_count}
use Rattle.rate_table.specs.Table.{row_of}
use Rattle.data_field.specs.Stages.{kept_at}
use Rattle.survivor_memory.specs.Nearest.{IsClosed}
use Rattle.viterbi_lanes.specs.Decisions.{AreNearlyKeptCode, changes}
use Rattle.viterbi_lanes.proofs.Nearest.{few_changes_repaired}
use Rattle.signal_field.specs.Headers.{IsReadAs}
use Rattle.signal_field.specs.Signal.{bits_of_number, front_bits_of, header_bits_of}
use Rattle.signal_field.proofs.Signal.{AreBits-header_bits_of, length-header_bits_of}
use Rattle.frame_fields.specs.Fields.{flips}
use Rattle.frame_fields.specs.Frames.{signal_code}
use Rattle.frame_fields.proofs.FieldLaws.{few_flips}
use Rattle.frame_fields.proofs.Fields.{enough_decisions}
use Rattle.frame_fields.proofs.NearFrames.{AreBits-kept_at}
use Rattle.frame_reader.specs.Frames.{HasField, data_decisions}
use Rattle.exact_decisions.specs.Laws.{SentIsHeard, sent_header}
use Rattle.exact_decisions.specs.Sent.{AreAsSent}
use Rattle.exact_decisions.proofs.Fields.{no_distance, no_distance_of_same, pieces_joined, same_pieces}
use Rattle.signal_field.proofs.Headers.{bits_say_header}

-- ---- the header
-- all of SIGNAL's code is kept
all_kept : (rate : Rate) (octets : ℕ) → kept_code Half (header_bits_of rate octets 0) ≡ signal_code rate octets
unfolding header_bits_of front_bits_of bits_of_number
all_kept rate octets = refl

zero_behind : (rate : Rate) (octets k : ℕ) → k < 6 → slice_index (header_bits_of rate octets 0) (18 + k) ≡ 0
unfolding header_bits_of front_bits_of bits_of_number
zero_behind rate octets k lt = eqb-true _ _ (agree_below_at (λ k. eqb (slice_index (header_bits_of rate octets 0) (18 + k)) 0) (λ _. true) 6 k refl lt)

header_closed : (rate : Rate) (octets : ℕ) → IsClosed 24 (header_bits_of rate octets 0)
header_closed rate octets = record {
  long = length-header_bits_of rate octets 0;
  bits = AreBits-header_bits_of rate octets 0 (omega arith);
  tail = tail;
}
  where
    tail : (place : ℕ) → place < 24 → 24 ≤ place + 6 → slice_index (header_bits_of rate octets 0) place ≡ 0
    tail place below last =
        let behind : 18 + (place - 18) ≡ place = omega arith in
        ap (slice_index (header_bits_of rate octets 0)) (sym behind) ∙ zero_behind rate octets (place - 18) (omega arith)

no_changes : (rate : Rate) (octets : ℕ) → changes Half 24 (header_bits_of rate octets 0) (signal_code rate octets) ≡ 0
no_changes rate octets = ap (λ kept. distance_over 48 kept (signal_code rate octets)) (all_kept rate octets) ∙ no_distance_of_same (signal_code rate octets) 48

header_read : (rate : Rate) (octets : ℕ) → 1 ≤ octets → octets ≤ 4095 → IsReadAs (signal_code rate octets) (Ok (record { rate = rate; length = octets; reserved = 0 }))
header_read rate octets some most =
    let bits = header_bits_of rate octets 0 in
    let nearly : AreNearlyKeptCode Half 24 bits (signal_code rate octets) =
    record { bits = AreBits-code_of bits; closed = header_closed rate octets; few = omega (arith, no_changes rate octets) } in
    record {
      bits = bits;
      least = changes Half 24 bits (signal_code rate octets);
      nearest = few_changes_repaired Half 24 bits (signal_code rate octets) (omega arith) nearly;
      says = bits_say_header rate octets 0 (some, most) (omega arith);
    }

-- ---- the field
module _ (rate : Rate) (seed : ℕ) (psdu : List ℕ) (decisions : Rate → ℕ → List ℕ) (sent : AreAsSent rate seed psdu decisions) where
  abbrev symbols : ℕ
  symbols = symbol_count (row_of rate).field_bits (length psdu)

  abbrev kept : List ℕ
  kept = kept_at rate seed psdu

  joined : data_decisions decisions rate symbols ≡ take (symbols * (row_of rate).coded_bits) kept
  unfolding data_decisions
  joined =
      let none : 0 * (row_of rate).coded_bits ≡ 0 = omega arith in
      same_pieces (λ m. decisions rate (m + 1)) (symbol_bits rate kept) 0 symbols
      (λ m least below. let next : m + 1 ≡ suc m = omega arith in ap (decisions rate) next ∙ sent (suc m) (omega arith))
      ∙ pieces_joined (row_of rate).coded_bits kept 0 symbols ∙ ap (λ k. take (symbols * (row_of rate).coded_bits) (drop k kept)) none

  no_flips : flips rate seed psdu (data_decisions decisions rate symbols) ≡ 0
  no_flips =
      ap (flips rate seed psdu) joined
      ∙ no_distance kept (kept_count (row_of rate).code_rate (bits_through_tail (length psdu))) (symbols * (row_of rate).coded_bits) (enough_decisions rate (length psdu))

  are_bits : AreBits (data_decisions decisions rate symbols)
  are_bits = rw joined (All-take IsBit (symbols * (row_of rate).coded_bits) kept (AreBits-kept_at rate seed psdu))

  pub field : IsSeed seed → AreOctets psdu → HasField decisions (sent_header rate psdu) seed psdu
  field is_seed octets =
      (flips rate seed psdu (data_decisions decisions rate symbols), few_flips rate seed psdu (data_decisions decisions rate symbols) is_seed octets are_bits (omega (arith, no_flips)))

pub sent_is_heard : SentIsHeard
sent_is_heard rate seed psdu decisions is_seed is_length octets sent = (
  subst (λ d. IsReadAs d (Ok (sent_header rate psdu))) (sym (sent 0 (omega arith))) (header_read rate (length psdu) is_length.0 is_length.1),
  field rate seed psdu decisions sent is_seed octets,
)
