use Rattle.std.proofs.Common.{◌≡◌, ℕ, ◌+◌}
use Rattle.frame_drills.specs.Draws.{drawn_octets, generator_behind}
use Rattle.frame_drills.proofs.draws.draw_octets.Given as goal

abbrev pub invariant-loop : goal.invariant-loop
invariant-loop l = record {
  words : (number : ℕ) → l.fn.words ≡ generator_behind number 4 → l.words ≡ generator_behind number (4 + l.counter);
  octets : (number : ℕ) → l.fn.words ≡ generator_behind number 4 → l.octets.items ≡ drawn_octets number l.counter;
}
