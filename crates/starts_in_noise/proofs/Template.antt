-- Samples near the plain training fields are close to the template, and match it.
use Rattle.std.proofs.Common.{◌≡◌, ℕ, ◌+◌, ◌*◌, ◌≤◌, mul-le-mul, List, length, map, sym, ◌∙◌, arith, ℤ, pos, ◌+ℤ◌, ◌-ℤ◌, ◌*ℤ◌, ◌≤ℤ◌, unsigned_abs}
use Rattle.std.proofs.Math.ListN.{get_or-map}
use Rattle.std.proofs.lemmas.Int.{ints}
use Rattle.std.proofs.lemmas.List.{length-map}
use Rattle.integer_laws.specs.Floor.{floor_div}
use Rattle.integer_laws.proofs.FloorDivision.{rounding_within}
use Rattle.integer_laws.proofs.Order.{pos-le, ≤ℤ_trans}
use Rattle.fixed_complex.specs.declared.Cx.{Cx}
use Rattle.fixed_complex.specs.declared.Sample.{Sample}
use Rattle.fixed_complex.specs.PairLists.{entry}
use Rattle.fixed_complex.specs.Pairs.{zero_pair}
use Rattle.fixed_complex.specs.Rounding.{half_up}
use Rattle.fixed_complex.specs.Samples.{sample_at}
use Rattle.lane_kernels.specs.Kernels.{dot_of, energy_of}
use Rattle.plain_waves.specs.Bodies.{plain_body, sample_of}
use Rattle.plain_waves.specs.Nearness.{AreNearPlain}
use Rattle.training_fields.specs.Training.{preamble_of, template_of}
use Rattle.frame_search.specs.Match.{matches}
use Rattle.frame_search.proofs.Table.{energy_of_template}
use Rattle.starts_in_noise.proofs.Lengths.{length-preamble}
use Rattle.starts_in_noise.specs.Laws.{PreambleMatches}
use Rattle.starts_in_noise.proofs.Alike.{AreClose, apart, apart-close, energies_apart, match_by_energies}

-- a sample within a bound of a plain one is as near to the plain one rounded
close_part : (r w : ℤ) (bound : ℕ) → unsigned_abs (pos 2097152 *ℤ r -ℤ w) ≤ 2097152 * bound → unsigned_abs (r -ℤ half_up 21 w) ≤ bound
close_part r w bound near =
    let t = floor_div (w +ℤ pos 1048576) 2097152 in
    let rounded : unsigned_abs (pos 2097152 *ℤ t -ℤ w) ≤ 1048576 = rounding_within w 1048576 (omega arith) in
    let here : unsigned_abs (r -ℤ t) ≤ bound = omega (arith, ints, rounded) in
    here

rounded_at : (plain : List Cx) (n : ℕ) → sample_at (map (sample_of 21) plain) n ≡ sample_of 21 (entry plain n)
rounded_at plain n = get_or-map (sample_of 21) plain n zero_pair

pub close : (bound : ℕ) (samples : List Sample) → AreNearPlain bound samples (preamble_of plain_body) → AreClose bound samples template_of
close bound samples near = record {
  long = near.long ∙ sym (length-map (preamble_of plain_body) (sample_of 21));
  i = λ n lt. rw (rounded_at (preamble_of plain_body) n) (close_part (sample_at samples n).i (entry (preamble_of plain_body) n).re bound (near.each n lt).i);
  q = λ n lt. rw (rounded_at (preamble_of plain_body) n) (close_part (sample_at samples n).q (entry (preamble_of plain_body) n).im bound (near.each n lt).q);
}

-- five times the differences' energy is at most the template's
small_enough : (E n : ℤ) (bound long : ℕ) → E ≡ pos 1747291860 → bound ≤ 64 → long ≡ 320 → n ≤ℤ pos (long * ((bound + bound) * (bound + bound))) → pos 0 ≤ℤ (E -ℤ pos 5 *ℤ n)
small_enough E n bound long is most all small =
    let double : bound + bound ≤ 128 = omega arith in
    let most_squared : (bound + bound) * (bound + bound) ≤ 128 * 128 = mul-le-mul double double in
    let few : n ≤ℤ pos 5242880 = ≤ℤ_trans _ _ _ small (pos-le _ _ (rw all (omega (arith, most_squared)))) in
    rw is (omega (arith, ints, few))

pub preamble_matches : PreambleMatches
unfolding matches
preamble_matches bound samples most near =
    let c = dot_of samples template_of in
    let closeness = close bound samples near in
    let long : length samples ≡ 320 = near.long ∙ length-preamble in
    let few = apart-close bound samples template_of closeness in
    let energy = energies_apart samples template_of closeness.long in
    match_by_energies (energy_of template_of) (energy_of samples) c.re c.im
    (rw (← energy_of_template) (pos-le 0 1747291860 (omega arith)))
    (rw energy (small_enough (energy_of template_of) (apart samples template_of) bound (length samples) (sym energy_of_template) most long few))
