use Rattle.std.proofs.Common.{rules, ◌≡◌, ℕ, ap, ◌∙◌}
use Rattle.std.proofs.lemmas.Int.{to_z-of_z}
use Rattle.std.specs.Int.{w16}
use Rattle.fixed_complex.proofs.Samples.{same_sample}
use Rattle.noise_script.specs.Noise.{behind_sample, noise_of, sample_noise}
use Rattle.rand_pcg.specs.Lcg.{Lcg}
use Rattle.rand_pcg.specs.Pcg.{pcg32}
use Rattle.noise_script.proofs.noise.sample_noise.Goals as goal

word_is : (word : ℕ) (old new : Lcg) → (word, new) ≡ pcg32 old → word ≡ (pcg32 old).0
word_is word old new e = ap (λ (p : ℕ × Lcg). p.0) e

behind_is : (word : ℕ) (old new : Lcg) → (word, new) ≡ pcg32 old → new ≡ (pcg32 old).1
behind_is word old new e = ap (λ (p : ℕ × Lcg). p.1) e

pub returns-clause-noise : goal.returns-clause-noise
unfolding sample_noise
returns-clause-noise c =
    let first = word_is c.next_word.result c.args.words.now c.next_word.new.self c.next_word.ensures in
    let between = behind_is c.next_word.result c.args.words.now c.next_word.new.self c.next_word.ensures in
    let second = word_is c.next_word-2.result c.next_word.new.self c.next_word-2.new.self c.next_word-2.ensures in
    let i = to_z-of_z w16 c.noise_of-i.result (search rules) ∙ c.noise_of-i.ensures ∙ ap (λ word. noise_of c.args.bound word) first in
    let q = to_z-of_z w16 c.noise_of-q.result (search rules) ∙ c.noise_of-q.ensures ∙ ap (λ word. noise_of c.args.bound word) (second ∙ ap (λ g. (pcg32 g).0) between) in
    same_sample _ _ i q

pub returns-clause-words : goal.returns-clause-words
unfolding behind_sample
returns-clause-words c =
    behind_is c.next_word-2.result c.next_word.new.self c.next_word-2.new.self c.next_word-2.ensures
    ∙ ap (λ g. (pcg32 g).1) (behind_is c.next_word.result c.args.words.now c.next_word.new.self c.next_word.ensures)
