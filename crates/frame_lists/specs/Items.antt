-- Frames behind gaps, and their samples (own).
use Rattle.std.specs.Prelude.{ℕ, ◌+◌, List, [], ◌∷◌, ◌++◌, replicate, pos}
use Rattle.fixed_complex.specs.declared.Sample.{Sample}
use Rattle.rate_table.specs.declared.Rate.{Rate}
use Rattle.frame_fields.specs.Frames.{sent_frame}
use Rattle.frame_lists.specs.Near.{SentFrame, end_of_sent}

-- a frame to be sent behind so many silent samples
pub record Item : Type 0 where
  pub gap : ℕ
  pub rate : Rate
  pub seed : ℕ
  pub psdu : List ℕ

-- so many samples (0, 0)
abbrev pub silence : ℕ → List Sample
silence count = replicate count (record { i = pos 0; q = pos 0 })

-- the samples of a list: item after item its gap, and then the sent samples of its frame
unfoldable pub samples_of_items : List Item → List Sample
samples_of_items [] = []
samples_of_items (item ∷ items) =
    silence item.gap ++ sent_frame item.rate item.seed item.psdu ++ samples_of_items items

-- its frame, where so many samples stand before the item
abbrev pub frame_from : ℕ → Item → SentFrame
frame_from before item =
    record { start = before + item.gap; rate = item.rate; seed = item.seed; psdu = item.psdu }

-- the frames of a list: each starts behind the samples before it, its own gap included
unfoldable pub frames_from : ℕ → List Item → List SentFrame
frames_from before [] = []
frames_from before (item ∷ items) =
    let frame = frame_from before item in frame ∷ frames_from (end_of_sent frame) items
