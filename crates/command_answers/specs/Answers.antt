-- What a command writes, before it is bytes (own).
use Rattle.std.specs.Prelude.{ℕ, List}
use Rattle.capture_files.specs.Captures.{bytes_of_samples, samples_in}
use Rattle.echo_taps.specs.Echoes.{echo_of}
use Rattle.fixed_complex.specs.declared.Cx.{Cx}
use Rattle.noise_script.specs.Effects.{after_items}
use Rattle.noise_script.specs.declared.Item.{Item}
use Rattle.symbol_turns.specs.Turning.{turned_samples}
use Rattle.command_answers.specs.declared.answers.Answer.{Answer}
use Rattle.command_answers.specs.declared.answers.Answer.TheVariants.{Bytes, Samples}

-- the bytes of an answer
abbrev pub bytes_of_answer : Answer → List ℕ
bytes_of_answer (Bytes bytes) = bytes.items
bytes_of_answer (Samples samples) = bytes_of_samples samples.items

-- what `noise` writes: the bytes of a capture's samples after the items of a script
abbrev pub noisy_bytes : List Item → List ℕ → List ℕ
noisy_bytes items capture = bytes_of_samples (after_items items (samples_in capture))

-- what `echo` writes: the bytes of the echo of a capture's samples
abbrev pub echoed_bytes : List Cx → List ℕ → List ℕ
echoed_bytes pairs capture = bytes_of_samples (echo_of pairs (samples_in capture))

-- what `rotate` writes: the bytes of a capture's samples with the symbols from a start on turned
abbrev pub rotated_bytes : ℕ → ℕ → List ℕ → List ℕ
rotated_bytes start step capture = bytes_of_samples (turned_samples start step (samples_in capture))
