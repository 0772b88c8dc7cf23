use Rattle.lane_kernels.proofs.Extremes.{all_quiet, sixteen_quiet}
use Rattle.lane_kernels.proofs.loudness.any_loud.Goals as goal

pub returns : goal.returns
returns c = λ quiet.
    let first = c.components-x.result in
    sixteen_quiet c.args.a.now c.components-x.result c.components-y.result c.components-z.result c.components-w.result
    c.components-x.ensures.value c.components-y.ensures.value c.components-z.ensures.value c.components-w.ensures.value
    (all_quiet c.components-x.result c.components-y.result c.components-z.result c.components-w.result c.greater.result c.lesser.result c.greater-2.result c.lesser-2.result c.greater-3.result c.lesser-3.result
    (record { high = c.greater.ensures.value; low = c.lesser.ensures.value }) (record { high = c.greater-2.ensures.value; low = c.lesser-2.ensures.value })
    c.greater-3.ensures.value c.lesser-3.ensures.value (c.any_beyond.ensures.most quiet) (c.any_beyond.ensures.least quiet))
