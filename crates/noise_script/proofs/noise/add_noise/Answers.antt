use Rattle.std.proofs.Common.{◌≡◌, ◌-◌, ℕ, List, length, take, drop, sym, ap, ◌∙◌, arith, length-drop}
use Rattle.std.proofs.lemmas.List.{length-take-le}
use Rattle.fixed_complex.specs.declared.Sample.{Sample}
use Rattle.lane_kernels.specs.Kernels.{held_sums}
use Rattle.noise_script.specs.Noise.{behind_samples, noise_samples}
use Rattle.noise_script.proofs.Noises.{all_done, piece_done}
use Rattle.noise_script.proofs.noise.add_noise.Goals as goal

pub loop-from-preserved : goal.loop-from-preserved
loop-from-preserved c =
    let from : ℕ = c.loop-from.from in
    let upto : ℕ = c.min-to.result in
    let samples : List Sample = c.loop-from.samples in
    let words = c.loop-from.words in
    let bound : ℕ = c.args.bound in
    let piece : List Sample = take (upto - from) (drop from samples) in
    let size : length piece ≡ upto - from = length-take-le (upto - from) (drop from samples) (omega (arith, length-drop from samples)) in
    record {
      within = omega arith;
      sums = piece_done bound from upto samples c.add_piece.new.piece words c.add_piece.new.words (omega arith) (omega arith)
          (c.add_piece.ensures.sums ∙ ap (λ n. held_sums piece (noise_samples bound n words)) size) (omega (arith, size))
          (c.add_piece.ensures.words ∙ ap (λ n. behind_samples n words) size) ∙ c.loop-from.invariant.sums;
    }

pub returns : goal.returns
returns c =
    sym (all_done c.args.bound c.loop-from.from c.loop-from.samples c.loop-from.words c.loop-from-test.false) ∙ c.loop-from.invariant.sums
    ∙ ap (λ w. held_sums c.args.samples.now (noise_samples c.args.bound (length c.args.samples.now) w)) c.generator-words.ensures
