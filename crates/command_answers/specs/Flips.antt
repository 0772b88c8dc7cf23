-- The kept code of a field, sent as a text, of which few bits were flipped on the way, or as a text of
-- costs, against which it costs little (own).
use Rattle.std.specs.Prelude.{◌≡◌, ◌≤◌, ℕ, List, length}
use Rattle.bit_lists.specs.Bits.{AreBits, AreOctets}
use Rattle.bit_lists.specs.Text.{IsTextOf}
use Rattle.frame_fields.specs.Fields.{flips}
use Rattle.kept_weights.specs.Decisions.{repaired_cost}
use Rattle.ofdm_scrambler.specs.Sequence.{IsSeed}
use Rattle.rate_table.specs.declared.Rate.{Rate}
use Rattle.rate_table.specs.Table.{row_of}
use Rattle.soft_trellis.specs.Fields.{sent_cost}
use Rattle.soft_trellis.specs.Text as digits
use Rattle.soft_trellis.specs.Values.{AreValues}
use Rattle.command_words.specs.declared.Command.TheVariants.{Decode, DecodeSoft}
use Rattle.command_words.specs.Grammar.{Say}
use Rattle.command_answers.specs.Decoding.{decisions_needed}

-- the words ask to decode as many octets as a PSDU has, at a rate; the bytes are the text of as many
-- bits as that needs; and of these, up to the tail, at most the rate's flip bound differ from the kept
-- code of the PSDU's field with some seed
pub record IsFlippedText (words : List (List ℕ)) (bytes psdu : List ℕ) : Type 0 where
  pub rate : Rate
  pub seed : ℕ
  pub bits : List ℕ
  pub asked : Say words (Decode rate (length psdu))
  pub is_seed : IsSeed seed
  pub octets : AreOctets psdu
  pub are_bits : AreBits bits
  pub text : IsTextOf bytes bits
  pub enough : length bits ≡ decisions_needed rate (length psdu)
  pub few : flips rate seed psdu bits ≤ (row_of rate).flip_bound

-- the words ask to decode as many octets as a PSDU has, at a rate, of a text of costs; the bytes are the
-- text of as many costs as that needs; and against these the kept code of the PSDU's field with some
-- seed costs, up to the tail, at most 74 at code rate 1/2, 44 at 2/3 or 37 at 3/4
pub record IsCheapText (words : List (List ℕ)) (bytes psdu : List ℕ) : Type 0 where
  pub rate : Rate
  pub seed : ℕ
  pub values : List ℕ
  pub asked : Say words (DecodeSoft rate (length psdu))
  pub is_seed : IsSeed seed
  pub octets : AreOctets psdu
  pub are_values : AreValues values
  pub text : digits.IsTextOf bytes values
  pub enough : length values ≡ decisions_needed rate (length psdu)
  pub cheap : sent_cost rate seed psdu values ≤ repaired_cost (row_of rate).code_rate
