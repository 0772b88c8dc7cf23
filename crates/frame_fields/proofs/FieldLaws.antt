-- Decisions have one field, and with few flips it is the one whose kept code they are.
use Rattle.std.proofs.Common.{◌≡◌, length, take, ◌∙◌, refl, sym, ap, subst, arith}
use Rattle.std.proofs.lemmas.List.{length-take-le}
use Rattle.std.proofs.lemmas.List.Elements.{All-take}
use Rattle.std.proofs.lemmas.List.FromFn.{length-map-range_with_len}
use Rattle.bit_lists.specs.Bits.{IsBit, octets_of_bits}
use Rattle.bit_lists.proofs.EightBits.{octets_of_bits_of_octets}
use Rattle.ofdm_scrambler.proofs.Fronts.{one_number, some_number}
use Rattle.rate_table.specs.Symbols.{bits_through_tail}
use Rattle.rate_table.specs.Table.{row_of}
use Rattle.viterbi_lanes.specs.Decisions.{marks_at, marks_of}
use Rattle.viterbi_lanes.specs.Marks.{IsNearestTo}
use Rattle.viterbi_lanes.proofs.Nearest.{few_changes_repaired, one_nearest_to, some_nearest_to}
use Rattle.frame_fields.specs.Fields.{psdu_in}
use Rattle.frame_fields.specs.Laws.{FewFlips, OneField, SomeField}
use Rattle.frame_fields.proofs.Fields.{field_front, flips_are_changes, front_has_psdu, front_names, nearly_front}

pub some_field : SomeField
some_field rate octets decisions =
    let marks = marks_of (row_of rate).code_rate decisions (bits_through_tail octets) in
    let count : length marks ≡ bits_through_tail octets = length-map-range_with_len (marks_at (row_of rate).code_rate decisions) 0 (bits_through_tail octets) in
    let nearest = some_nearest_to marks (omega (arith, count)) in
    let bits = nearest.0 in
    let closed = nearest.1.1.of_kind in
    let named = some_number (take 7 bits) (All-take IsBit 7 bits closed.bits) (length-take-le 7 bits (omega (arith, closed.long, count))) in (
      named.0,
      (
        psdu_in octets named.0 bits,
        (
          nearest.1.0,
          record {
            bits = bits;
            nearest = nearest.1.1;
            names = record { seven_bits = named.1.0; begins = named.1.1 };
            psdu_is = refl;
          },
        ),
      ),
    )

pub one_field : OneField
one_field rate octets decisions m n psdu other d e first second =
    let same = one_nearest_to (marks_of (row_of rate).code_rate decisions (bits_through_tail octets)) first.bits second.bits d e first.nearest second.nearest in
    let number = one_number m n first.names.seven_bits second.names.seven_bits (first.names.begins ∙ ap (take 7) same.0 ∙ sym second.names.begins) in (
      number,
      (
        first.psdu_is ∙ ap (λ k. psdu_in octets k first.bits) number ∙ ap (psdu_in octets n) same.0 ∙ sym second.psdu_is,
        same.1,
      ),
    )

pub few_flips : FewFlips
few_flips rate seed psdu decisions is_seed octets bits few =
    let front = field_front (row_of rate).field_bits seed psdu in
    let steps = bits_through_tail (length psdu) in
    let nearly = nearly_front rate seed (length psdu) psdu decisions refl bits few in
    let nearest = few_changes_repaired (row_of rate).code_rate steps front decisions (omega arith) nearly in
    record {
      bits = front;
      nearest = subst (IsNearestTo (marks_of (row_of rate).code_rate decisions steps) front) (sym (flips_are_changes rate seed psdu decisions)) nearest;
      names = front_names rate seed psdu is_seed;
      psdu_is = sym (octets_of_bits_of_octets psdu octets) ∙ ap octets_of_bits (front_has_psdu rate seed psdu);
    }
