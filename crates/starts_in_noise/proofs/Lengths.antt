-- The length of the training fields.
use Rattle.std.proofs.Common.{◌≡◌, ◌+◌, ◌%◌, length, length-append, arith}
use Rattle.std.proofs.lemmas.List.FromFn.{length-map-range_with_len}
use Rattle.carrier_bins.specs.Bins.{by_bin}
use Rattle.plain_waves.specs.Bodies.{plain_body}
use Rattle.training_fields.specs.Training.{long_carrier, long_times, preamble_of, short_carrier, short_times}

pub length-preamble : length (preamble_of plain_body) ≡ 320
length-preamble =
    let short : length (short_times (plain_body (by_bin short_carrier))) ≡ 160 = length-map-range_with_len (λ time. plain_body (by_bin short_carrier) (time % 64)) 0 160 in
    let long : length (long_times (plain_body (by_bin long_carrier))) ≡ 160 = length-map-range_with_len (λ time. plain_body (by_bin long_carrier) ((time + 32) % 64)) 0 160 in
    omega (arith, length-append (short_times (plain_body (by_bin short_carrier))) (long_times (plain_body (by_bin long_carrier))), short, long)
