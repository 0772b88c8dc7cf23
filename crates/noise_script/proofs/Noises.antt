-- The noise of uniform items, piece by piece.
use Rattle.std.proofs.Common.{ℕ, zero, suc, ◌+◌, ◌-◌, ◌<◌, ◌≤◌, ◌≡◌, List, [], ◌∷◌, ◌++◌, length, take, drop, refl, sym, ap, ◌∙◌, arith, append_assoc, append-nil, length-drop}
use Rattle.std.proofs.lemmas.List.{drop-drop, drop_all, take_all}
use Rattle.std.proofs.lemmas.Slice.{drop-put_mid, take-put_mid}
use borrow.Rule.Slice.PartMut.{put_mid}
use Rattle.std.proofs.lemmas.Int.{ints}
use Rattle.std.specs.Prelude.{unsigned_abs}
use Rattle.fixed_complex.specs.declared.Sample.{Sample}
use Rattle.fixed_complex.specs.Samples.{IsSampleWithin, SamplesWithin, sample_at}
use Rattle.rand_pcg.specs.Pcg.{pcg32}
use Rattle.lane_kernels.specs.Kernels.{held_sum, held_sums}
use Rattle.noise_script.specs.Noise.{behind_sample, behind_samples, noise_of, noise_samples, sample_noise}
use Rattle.rand_pcg.specs.Lcg.{Lcg}

-- one sample's noise more
pub noise_more : (bound count : ℕ) (words : Lcg) → noise_samples bound (suc count) words ≡ noise_samples bound count words ++ sample_noise bound (behind_samples count words) ∷ []
unfolding noise_samples behind_samples
noise_more bound zero words = refl
noise_more bound (suc count) words = ap (λ more. sample_noise bound words ∷ more) (noise_more bound count (behind_sample words))

pub behind_more : (count : ℕ) (words : Lcg) → behind_samples (suc count) words ≡ behind_sample (behind_samples count words)
unfolding behind_samples
behind_more zero words = refl
behind_more (suc count) words = behind_more count (behind_sample words)

pub no_noise : (bound : ℕ) (words : Lcg) → noise_samples bound 0 words ≡ []
unfolding noise_samples
no_noise bound words = refl

pub behind_none : (words : Lcg) → behind_samples 0 words ≡ words
unfolding behind_samples
behind_none words = refl

pub sums_of_none : (noise : List Sample) → held_sums [] noise ≡ []
unfolding held_sums
sums_of_none noise = refl

-- a piece's sums in front of those of the rest
pub piece_first : (bound k m : ℕ) (samples : List Sample) (words : Lcg) → length samples ≡ k + m → held_sums samples (noise_samples bound (length samples) words) ≡ held_sums (take k samples) (noise_samples bound k words) ++ held_sums (drop k samples) (noise_samples bound m (behind_samples k words))
unfolding held_sums noise_samples behind_samples
piece_first bound zero m samples words e =
    let same : length samples ≡ m = omega arith in
    ap (λ n. held_sums samples (noise_samples bound n words)) same
piece_first bound (suc k) m [] words e = absurd (omega arith)
piece_first bound (suc k) m (sample ∷ samples) words e =
    ap (λ more. held_sum sample (sample_noise bound words) ∷ more) (piece_first bound k m samples (behind_sample words) (omega arith))

-- the samples whose noise was added in front of those whose noise is to come, after a piece and before it
pub piece_done : (bound from upto : ℕ) (samples piece : List Sample) (words behind : Lcg) → from ≤ upto → upto ≤ length samples → piece ≡ held_sums (take (upto - from) (drop from samples)) (noise_samples bound (upto - from) words) → length piece ≡ upto - from → behind ≡ behind_samples (upto - from) words → take upto (put_mid from (upto - from) samples piece) ++ held_sums (drop upto (put_mid from (upto - from) samples piece)) (noise_samples bound (length (drop upto (put_mid from (upto - from) samples piece))) behind) ≡ take from samples ++ held_sums (drop from samples) (noise_samples bound (length (drop from samples)) words)
piece_done bound from upto samples piece words behind l m e size f =
    let k : ℕ = upto - from in
    let done : List Sample = put_mid from k samples piece in
    let rest : List Sample = drop k (drop from samples) in
    let front : take upto done ≡ take from samples ++ piece = take-put_mid from k samples piece upto (omega arith) (omega arith) in
    let more : upto ≡ from + k = omega arith in
    let back : drop upto done ≡ rest = drop-put_mid from k samples piece upto (omega arith) (omega arith) size ∙ ap (λ n. drop n samples) more ∙ sym (drop-drop k from samples) in
    let whole : length (drop from samples) ≡ k + length rest = omega (arith, length-drop from samples, length-drop k (drop from samples)) in
    ap (λ x. x ++ held_sums (drop upto done) (noise_samples bound (length (drop upto done)) behind)) front
    ∙ ap (λ x. (take from samples ++ piece) ++ held_sums x (noise_samples bound (length x) behind)) back
    ∙ ap (λ v. (take from samples ++ piece) ++ held_sums rest (noise_samples bound (length rest) v)) f
    ∙ append_assoc (take from samples) piece (held_sums rest (noise_samples bound (length rest) (behind_samples k words)))
    ∙ ap (λ x. take from samples ++ (x ++ held_sums rest (noise_samples bound (length rest) (behind_samples k words)))) e
    ∙ ap (λ x. take from samples ++ x) (sym (piece_first bound k (length rest) (drop from samples) words whole))

pub all_done : (bound from : ℕ) (samples : List Sample) (words : Lcg) → length samples ≤ from → take from samples ++ held_sums (drop from samples) (noise_samples bound (length (drop from samples)) words) ≡ samples
all_done bound from samples words l =
    ap (λ x. x ++ held_sums (drop from samples) (noise_samples bound (length (drop from samples)) words)) (take_all from samples l)
    ∙ ap (λ x. samples ++ held_sums x (noise_samples bound (length x) words)) (drop_all from samples l)
    ∙ ap (λ x. samples ++ x) (sums_of_none (noise_samples bound 0 words))
    ∙ append-nil samples

-- noise is within its bound
pub noise_bound : (bound word : ℕ) → unsigned_abs (noise_of bound word) ≤ bound
noise_bound bound word = omega (arith, ints)

sample_bound : (bound : ℕ) (words : Lcg) → IsSampleWithin bound (sample_noise bound words)
unfolding sample_noise
sample_bound bound words = record { i = noise_bound bound (pcg32 words).0; q = noise_bound bound (pcg32 (pcg32 words).1).0 }

pub length-noise : (bound count : ℕ) (words : Lcg) → length (noise_samples bound count words) ≡ count
unfolding noise_samples
length-noise bound zero words = refl
length-noise bound (suc count) words = ap suc (length-noise bound count (behind_sample words))

noise_at : (bound count : ℕ) (words : Lcg) (n : ℕ) → n < count → IsSampleWithin bound (sample_at (noise_samples bound count words) n)
unfolding noise_samples
noise_at bound zero words n l = absurd (omega arith)
noise_at bound (suc count) words zero l = sample_bound bound words
noise_at bound (suc count) words (suc n) l = noise_at bound count (behind_sample words) n (omega arith)

pub noise_within : (bound count : ℕ) (words : Lcg) → SamplesWithin bound (noise_samples bound count words)
noise_within bound count words = record { each = λ n l. noise_at bound count words n (omega (arith, l, length-noise bound count words)) }
