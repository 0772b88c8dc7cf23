use Rattle.std.proofs.Common.{◌≡◌, ◌+◌, ℕ, suc, List, [], ◌∷◌, ◌++◌, refl, sym, ap, ◌∙◌, arith, length-set}
use Rattle.std.proofs.lemmas.List.{take_more_set}
use Rattle.fixed_complex.specs.declared.Sample.{Sample}
use Rattle.noise_script.specs.Noise.{behind_sample, behind_samples, noise_samples, sample_noise}
use Rattle.noise_script.proofs.Noises.{behind_more, behind_none, no_noise, noise_more}
use Rattle.noise_script.proofs.noise.add_piece.Goals as goal

pub loop-n-init : goal.loop-n-init
loop-n-init c = record { size = refl; made = sym (no_noise c.args.bound c.args.words.now); words = sym (behind_none c.args.words.now) }

pub loop-n-preserved : goal.loop-n-preserved
loop-n-preserved c =
    let n : ℕ = c.loop-n.n in
    let bound : ℕ = c.args.bound in
    let words = c.args.words.now in
    let more : suc n ≡ n + 1 = omega arith in
    let front : List Sample = noise_samples bound n words in
    let next : c.sample_noise.result ≡ sample_noise bound (behind_samples n words) = c.sample_noise.ensures.noise ∙ ap (λ w. sample_noise bound w) c.loop-n.invariant.words in
    record {
      size = simp length-set c.loop-n.invariant.size;
      made = take_more_set c.loop-n.noise n c.sample_noise.result (omega (arith, c.loop-n.invariant.size)) ∙ ap (λ x. x ++ c.sample_noise.result ∷ []) c.loop-n.invariant.made ∙ ap (λ x. front ++ x ∷ []) next ∙ sym (noise_more bound n words) ∙ ap (λ m. noise_samples bound m words) more;
      words = c.sample_noise.ensures.words ∙ ap (λ w. behind_sample w) c.loop-n.invariant.words ∙ sym (behind_more n words) ∙ ap (λ m. behind_samples m words) more;
    }
