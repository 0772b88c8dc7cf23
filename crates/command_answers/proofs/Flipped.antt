-- The outcomes of a text of few flips, and of a cheap one.
use Rattle.std.proofs.Common.{◌≡◌, ◌≤◌, inl, inr, ℕ, ◌+◌, List, [], ◌∷◌, length, length-append, map, ap, ◌∙◌, arith}
use Rattle.std.proofs.lemmas.List.{length-map}
use Rattle.bit_lists.specs.Text.{character_of}
use Rattle.character_texts.specs.Texts.{IsTextBy}
use Rattle.frame_fields.specs.Fields.{flips}
use Rattle.frame_fields.specs.Laws.{FewFlips}
use Rattle.modem_ports.specs.Limits.{most_input}
use Rattle.rate_table.proofs.ByRate.{by_rate}
use Rattle.rate_table.specs.declared.Rate.{Rate}
use Rattle.soft_trellis.specs.Fields.{sent_cost}
use Rattle.soft_trellis.specs.Laws.{LittleCost}
use Rattle.soft_trellis.specs.Text.{digit_of}
use Rattle.command_words.specs.declared.Request.TheVariants.{Decode, DecodeSoft}
use Rattle.command_answers.specs.Decoding.{decisions_needed}
use Rattle.command_answers.specs.InOrder.{passed}
use Rattle.command_answers.specs.Laws.{CheapTextGivesItsPsdu, FlippedTextGivesItsPsdu}
use Rattle.command_answers.specs.Outcome.{of_request}
use Rattle.command_answers.proofs.OfText.{bits_written, costs_written}

few_needed : (rate : Rate) (octets : ℕ) → octets ≤ 4095 → decisions_needed rate octets ≤ 70000
few_needed rate octets most =
    by_rate (λ r. decisions_needed r octets ≤ 70000) (omega arith) (omega arith) (omega arith) (omega arith) (omega arith) (omega arith) (omega arith) (omega arith) rate

-- a text is at most one character longer than its values
text_length : (character : ℕ → ℕ) (bytes values : List ℕ) → IsTextBy character bytes values → length bytes ≤ length values + 1
text_length character bytes values (inl is) = omega (arith, ap length is, length-map values character)
text_length character bytes values (inr is) = omega (arith, ap length is ∙ length-append (map character values) (10 ∷ []), length-map values character)

-- a text of as many decisions as are needed isn't too long
short_enough : (character : ℕ → ℕ) (rate : Rate) (octets : ℕ) (bytes values : List ℕ) → octets ≤ 4095 → IsTextBy character bytes values → length values ≡ decisions_needed rate octets → length bytes ≤ most_input
short_enough character rate octets bytes values most text enough = omega (arith, few_needed rate octets most, text_length character bytes values text, enough)

pub flipped_outcome : FewFlips → FlippedTextGivesItsPsdu
flipped_outcome few words bytes psdu h =
    let field = few h.rate h.seed psdu h.bits h.is_seed h.octets h.are_bits h.few in
    let short = short_enough character_of h.rate (length psdu) bytes h.bits h.asked.in_range.1 h.text h.enough in
    of_request (Decode h.rate (length psdu)) (record { said = h.asked; carried = tt }) (passed (λ long. omega (arith, long, short))
    (bits_written h.rate (length psdu) bytes h.bits psdu (h.are_bits, h.text) h.enough (h.seed, (flips h.rate h.seed psdu h.bits, field))))

pub cheap_outcome : LittleCost → CheapTextGivesItsPsdu
cheap_outcome little words bytes psdu h =
    let field = little h.rate h.seed psdu h.values h.is_seed h.octets h.cheap in
    let short = short_enough digit_of h.rate (length psdu) bytes h.values h.asked.in_range.1 h.text h.enough in
    of_request (DecodeSoft h.rate (length psdu)) (record { said = h.asked; carried = tt }) (passed (λ long. omega (arith, long, short))
    (costs_written h.rate (length psdu) bytes h.values psdu (h.are_values, h.text) h.enough (h.seed, (sent_cost h.rate h.seed psdu h.values, field))))
