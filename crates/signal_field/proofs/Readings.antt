-- Decisions are read as one header or fault, and the bits of a header say it.
use Rattle.std.proofs.Common.{◌≡◌, length, refl, sym, ap, ◌∙◌, arith}
use Rattle.std.proofs.lemmas.List.FromFn.{length-map-range_with_len}
use Rattle.rate_table.specs.declared.CodeRate.TheVariants.{Half}
use Rattle.viterbi_lanes.specs.Decisions.{marks_at, marks_of}
use Rattle.viterbi_lanes.proofs.Nearest.{one_nearest_to, some_nearest_to}
use Rattle.signal_field.specs.Headers.{header_in}
use Rattle.signal_field.specs.Laws.{OneReading, SomeReading}

pub some_reading : SomeReading
some_reading decisions =
    let marks = marks_of Half decisions 24 in
    let count : length marks ≡ 24 = length-map-range_with_len (marks_at Half decisions) 0 24 in
    let nearest = some_nearest_to marks (omega (arith, count)) in
    let bits = nearest.0 in
    (header_in bits, record { bits = bits; least = nearest.1.0; nearest = nearest.1.1; says = refl })

pub one_reading : OneReading
one_reading decisions x y first second =
    let same = (one_nearest_to (marks_of Half decisions 24) first.bits second.bits first.least second.least first.nearest second.nearest).0 in
    sym first.says ∙ ap header_in same ∙ second.says
