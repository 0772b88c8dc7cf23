use Rattle.frame_lists.proofs.Places.{one_waveform, others_behind, silent_before, silent_up_to_start}
use Rattle.frame_lists.proofs.laws.places_of_frames.Goals as goal

pub returns-clause-before : goal.returns-clause-before
returns-clause-before c = silent_before

pub returns-clause-up_to_start : goal.returns-clause-up_to_start
returns-clause-up_to_start c = silent_up_to_start

pub returns-clause-within : goal.returns-clause-within
returns-clause-within c = one_waveform

pub returns-clause-behind : goal.returns-clause-behind
returns-clause-behind c = others_behind
