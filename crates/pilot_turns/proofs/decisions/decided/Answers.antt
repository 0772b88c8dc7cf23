use Rattle.std.proofs.Common.{◌∙◌, refl, pos}
use Rattle.pilot_turns.proofs.Parts.{multiple_out, square_is, wide_is}
use Rattle.pilot_turns.proofs.decisions.decided.Goals as goal

pub returns-clause-value : goal.returns-clause-value
returns-clause-value c = λ rate is.
    let back = c.turned_back-back.result in
    let small = c.turned_back-back.ensures.within in
    let re = wide_is c.from.result back.re small.re c.from.ensures in
    let im = wide_is c.from-2.result back.im small.im c.from-2.ensures in
    let square = square_is c.size_squared.result c.size_squared.ensures.least c.size_squared.ensures.most in
    c.decide_wide.ensures.decided
    ∙ rw (re, im, square, is, c.size_squared.ensures.value, c.turned_back-back.ensures.value, multiple_out (pos 16384) c.args.carrier c.args.channel) refl
