use Rattle.std.proofs.Common.{◌≡◌, ◌*◌, ◌<◌, length, take}
use Rattle.std.specs.List.{flat_map, range_with_len}
use Rattle.conv_code.specs.Code.{parities}
use Rattle.conv_code.specs.States.{state_before}
use Rattle.signal_field.proofs.header_code.Given as goal

abbrev pub invariant-loop-k : goal.invariant-loop-k
invariant-loop-k l = record {
  long : length l.code ≡ 48;
  coded : take (2 * l.k) l.code ≡ flat_map (parities l.bits) (range_with_len 0 l.k);
  state : l.state ≡ state_before l.bits l.k;
  below : l.state < 64;
}
