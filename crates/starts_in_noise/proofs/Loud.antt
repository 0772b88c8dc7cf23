-- The first sample of a preamble is loud, and silence is quiet.
use Rattle.std.proofs.Common.{◌≡◌, ℕ, ◌*◌, ◌<◌, ◌≤◌, ◌||◌, nat_lt, length, refl, ap, ◌∙◌, arith, ℤ, pos, ◌-ℤ◌, ◌*ℤ◌, unsigned_abs}
use Rattle.std.proofs.lemmas.Bool.{le-ltb, lt-ltb}
use Rattle.std.proofs.lemmas.Int.{ints}
use Rattle.fixed_complex.specs.Laws.{sum_below}
use Rattle.fixed_complex.specs.PairLists.{entry}
use Rattle.fixed_complex.specs.Pairs.{times}
use Rattle.fixed_complex.specs.Samples.{sample_at}
use Rattle.fixed_complex.specs.Turns.{turn_at}
use Rattle.carrier_bins.specs.Signs.{sign_at}
use Rattle.plain_waves.specs.Bodies.{plain_body}
use Rattle.training_fields.specs.Training.{preamble_of}
use Rattle.starts_in_noise.proofs.Lengths.{length-preamble}
use Rattle.starts_in_noise.specs.Laws.{PreambleIsLoud, SilenceIsQuiet}

-- the plain waveform begins with 954 in both components
first_plain : entry (preamble_of plain_body) 0 ≡ record { re = pos 2000683008; im = pos 2000683008 }
unfolding sum_below times turn_at sign_at
first_plain = refl

loud_part : (r : ℤ) (bound : ℕ) → bound ≤ 64 → unsigned_abs (pos 2097152 *ℤ r -ℤ pos 2000683008) ≤ 2097152 * bound → 256 < unsigned_abs r
loud_part r bound most near = omega (arith, ints)

pub preamble_is_loud : PreambleIsLoud
preamble_is_loud bound samples most near =
    let here : 0 < length samples = omega (arith, near.long, length-preamble) in
    let part = rw first_plain at (near.each 0 here) in
    let large = loud_part (sample_at samples 0).i bound most part.i in
    ap (λ b. b || nat_lt 256 (unsigned_abs (sample_at samples 0).q)) (lt-ltb 256 (unsigned_abs (sample_at samples 0).i) large)

quiet_part : (r : ℤ) (bound : ℕ) → bound ≤ 64 → unsigned_abs (pos 2097152 *ℤ r -ℤ pos 0) ≤ 2097152 * bound → unsigned_abs r ≤ 256
quiet_part r bound most near = omega (arith, ints)

pub silence_is_quiet : SilenceIsQuiet
silence_is_quiet bound sample most near =
    let i = le-ltb 256 (unsigned_abs sample.i) (quiet_part sample.i bound most near.i) in
    let q = le-ltb 256 (unsigned_abs sample.q) (quiet_part sample.q bound most near.q) in
    ap (λ b. b || nat_lt 256 (unsigned_abs sample.q)) i ∙ q
