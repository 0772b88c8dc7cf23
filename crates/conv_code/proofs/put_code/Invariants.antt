use Rattle.std.proofs.Common.{◌≡◌, ℕ, ◌*◌, ◌++◌, List, length, replicate, take}
use Rattle.std.specs.List.{flat_map, range_with_len}
use Rattle.conv_code.specs.Code.{parities}
use Rattle.conv_code.proofs.put_code.Given as goal

abbrev pub invariant-loop-i : goal.invariant-loop-i
invariant-loop-i l = record {
  long : length l.code ≡ length l.initial.code;
  coded : (u : List ℕ) → l.inputs ≡ replicate 6 0 ++ u → take (2 * l.i) l.code ≡ flat_map (parities u) (range_with_len 0 l.i);
}
