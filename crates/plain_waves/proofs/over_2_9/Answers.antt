use Rattle.fixed_complex.specs.Numbers.{number_at}
use Rattle.plain_waves.proofs.Parts.{rounded_word}
use Rattle.plain_waves.proofs.over_2_9.Goals as goal

pub returns : goal.returns
returns c =
    let i = rounded_word (number_at c.args.sums.now.re c.args.l) c.requires.words.re c.requires.fits.i in
    let q = rounded_word (number_at c.args.sums.now.im c.args.l) c.requires.words.im c.requires.fits.q in
    λ t. record { i = i t; q = q t }
