use Rattle.std.proofs.Common.{◌≡◌, ◌^◌, ◌∙◌, ap, sym, refl, pos}
use Rattle.fixed_complex.specs.Pairs.{multiple, times}
use Rattle.fixed_complex.specs.PairLists.{entry}
use Rattle.carrier_bins.specs.Carriers.{bin_of, data_carrier_of}
use Rattle.carrier_equaliser.specs.Decided.{decided_at}
use Rattle.pilot_turns.specs.Turned.{turned_carriers, turned_channels}
use Rattle.fixed_complex.proofs.PairSizes.{within-times}
use Rattle.pilot_turns.proofs.Parts.{carrier_entry, channel_entry}
use Rattle.pilot_turns.proofs.decisions.decided_number.Goals as goal

pub decided-requires-clause-channel : goal.decided-requires-clause-channel
decided-requires-clause-channel c = rw c.mul.ensures (within-times (2 ^ 23) (2 ^ 15) c.in_bin.result c.args.turn c.in_bin.ensures.within c.requires.turn)

pub returns-clause-value : goal.returns-clause-value
unfolding decided_at
returns-clause-value c = λ rate is.
    let place = bin_of (data_carrier_of c.args.number) in
    let bin : c.data_bin-bin.result ≡ place = c.data_bin-bin.ensures.bin in
    let channel : c.in_bin.result ≡ entry c.args.estimate.now place = c.in_bin.ensures.value ∙ ap (entry c.args.estimate.now) bin in
    let over : c.mul.result ≡ entry (turned_channels c.args.turn c.args.estimate.now) place =
    c.mul.ensures ∙ ap (λ h. times h c.args.turn) channel ∙ sym (channel_entry c.args.turn c.args.estimate.now place) in
    let symbol : multiple (pos 16384) (entry c.args.symbol.now c.data_bin-bin.result) ≡ entry (turned_carriers c.args.symbol.now) place =
    ap (λ b. multiple (pos 16384) (entry c.args.symbol.now b)) bin ∙ sym (carrier_entry c.args.symbol.now place) in
    c.decided.ensures.value rate is ∙ rw (over, symbol) refl
