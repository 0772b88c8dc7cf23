use Rattle.std.proofs.Common.{◌≢◌, ◌+◌, ◌<◌, ap, length, bit_xor, slice_index, get_or-set_same, get_or-set_other, below_more, arith}
use Rattle.ofdm_scrambler.proofs.scramble_piece.Goals as goal

pub loop-k-preserved : goal.loop-k-preserved
loop-k-preserved c =
    let place = c.args.place in
    let k = c.loop-k.k in
    let so_far = c.loop-k.invariant in
    let here : place + k < length c.loop-k.bits = omega arith in
    record {
      changed =
          below_more _ _
          (λ j lt. let other : place + j ≢ place + k = omega arith in rw get_or-set_other (so_far.changed j lt))
          (rw get_or-set_same (ap (λ bit. bit_xor bit (slice_index c.args.period.now k)) (so_far.behind (place + k) (omega arith))));
      before = λ n lt. let other : n ≢ place + k = omega arith in rw get_or-set_other (so_far.before n lt);
      behind = λ n le. let other : n ≢ place + k = omega arith in rw get_or-set_other (so_far.behind n (omega arith));
    }
