-- An echo, place by place.
use Rattle.std.proofs.Common.{◌+◌, length}
use Rattle.std.proofs.lemmas.List.FromFn.{length-map-range_with_len}
use Rattle.std.proofs.lemmas.List.Elements.{All-map}
use Rattle.std.specs.List.{range_with_len}
use Rattle.fixed_complex.specs.declared.Cx.{Cx}
use Rattle.fixed_complex.specs.Rounding.{half_up}
use Rattle.fixed_complex.specs.Samples.{IsSample, pair_at}
use Rattle.fixed_complex.proofs.Samples.{sample-map}
use Rattle.lane_kernels.proofs.Holding.{held-fits}
use Rattle.echo_taps.specs.Echoes.{echo_of, gathered, held_sample}
use Rattle.echo_taps.specs.Laws.{EchoAtPlace, EchoIsLong, EchoIsSamples}

pub length-echo : EchoIsLong
unfolding echo_of
length-echo taps samples = length-map-range_with_len (λ place. held_sample (gathered taps (pair_at samples) place)) 0 (length samples + 7)

pub echo_at : EchoAtPlace
unfolding echo_of
echo_at taps samples place lt = sample-map (λ place. held_sample (gathered taps (pair_at samples) place)) (length samples + 7) place lt

held_is_sample : (sum : Cx) → IsSample (held_sample sum)
held_is_sample sum = record { i = held-fits (half_up 10 sum.re); q = held-fits (half_up 10 sum.im) }

pub echo_is_samples : EchoIsSamples
unfolding echo_of
echo_is_samples taps samples =
    All-map IsSample (λ place. held_sample (gathered taps (pair_at samples) place)) (range_with_len 0 (length samples + 7)) (λ k d _. held_is_sample (gathered taps (pair_at samples) _))
