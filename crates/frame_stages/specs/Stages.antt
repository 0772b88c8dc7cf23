-- The texts of the stages of the transmitter (own).
use Rattle.std.specs.Prelude.{ℕ, List, length}
use Rattle.bit_lists.specs.Text.{text_of_bits}
use Rattle.command_words.specs.declared.Stage.{Stage}
use Rattle.command_words.specs.declared.Stage.TheVariants.{Scrambled, Coded, Kept, Interleaved, Points, Header, Samples}
use Rattle.data_field.specs.Stages.{field_at, code_at, kept_at, interleaved_at}
use Rattle.frame_fields.specs.Frames.{sent_frame, signal_code}
use Rattle.rate_table.specs.declared.Rate.{Rate}
use Rattle.symbol_builder.specs.Points.{points_at}
use Rattle.frame_stages.specs.Lines.{text_of_pairs, text_of_samples}

-- the text that `show` writes of a stage
abbrev pub stage_text_of : Stage → Rate → ℕ → List ℕ → List ℕ
stage_text_of Scrambled rate seed psdu = text_of_bits (field_at rate seed psdu)
stage_text_of Coded rate seed psdu = text_of_bits (code_at rate seed psdu)
stage_text_of Kept rate seed psdu = text_of_bits (kept_at rate seed psdu)
stage_text_of Interleaved rate seed psdu = text_of_bits (interleaved_at rate seed psdu)
stage_text_of Points rate seed psdu = text_of_pairs (points_at rate seed psdu)
stage_text_of Header rate seed psdu = text_of_bits (signal_code rate (length psdu))
stage_text_of Samples rate seed psdu = text_of_samples (sent_frame rate seed psdu)
