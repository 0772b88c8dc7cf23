-- The bits of a point are decided where its carrier and the estimate are near enough.
use Rattle.std.proofs.Common.{take, ap, ◌∙◌}
use Rattle.fixed_complex.specs.Pairs.{conjugate, squared_size, times}
use Rattle.rate_table.specs.Table.{bits_of_modulation}
use Rattle.constellations.specs.Decisions.{decided}
use Rattle.constellations.specs.Points.{point_of}
use Rattle.decided_axis.specs.Channels.{size_of_point}
use Rattle.decided_axis.specs.Laws.{DecidedRightly}
use Rattle.fixed_complex.proofs.PairSizes.{squared_size_is}
use Rattle.decided_axis.proofs.Channels.{deviation, left_of, near}
use Rattle.decided_axis.proofs.Points.{bits_back, point_size}

pub decided_rightly : DecidedRightly
decided_rightly modulation group scale carried estimated least left channel received estimate are long allows over =
    let z = times received (conjugate estimate) in
    let error = deviation scale carried estimated (size_of_point modulation) channel (point_of modulation group) received estimate allows.some (point_size modulation group are long) over.carries over.estimates in
    let size = left_of scale estimated least left channel estimate over.estimates over.large allows.leaves in
    ap (λ m. take (bits_of_modulation modulation) (decided modulation z m)) (squared_size_is estimate)
    ∙ bits_back modulation group z (squared_size estimate) are long (near modulation (point_of modulation group) received estimate _ left error size allows.enough)
