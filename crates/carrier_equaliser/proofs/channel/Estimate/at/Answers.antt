use Rattle.std.proofs.Common.{◌≡◌, ◌<◌, ap, ◌∙◌, arith, w32, to_z, of_z}
use Rattle.std.proofs.lemmas.Int.{to_z-of_z}
use Rattle.carrier_bins.specs.Carriers.{bin_of}
use Rattle.carrier_equaliser.proofs.Silent.{estimate_silent}
use Rattle.carrier_equaliser.proofs.channel.Estimate.at.Goals as goal

pub returns-clause-none : goal.returns-clause-none
returns-clause-none c = λ first second is none.
    let carrier = c.args.carrier in
    let held : to_z w32 (of_z w32 carrier) ≡ carrier = to_z-of_z w32 carrier c.ranges.carrier in
    let place : c.bin.result ≡ bin_of carrier = c.bin.ensures.bin ∙ ap bin_of held in
    let below : bin_of carrier < 64 = omega (arith, place, c.bin.ensures.within) in
    let same = c.self.view_is ∙ is in
    rw (same, place) (estimate_silent first second carrier c.requires.least c.requires.most below none)
