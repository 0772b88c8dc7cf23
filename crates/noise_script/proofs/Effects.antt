-- What items do to samples.
use Rattle.std.proofs.Common.{ℕ, zero, suc, ◌+◌, ◌<◌, ◌≤◌, ◌≡◌, List, [], ◌∷◌, ◌++◌, length, take, drop, get_or, ℤ, refl, ap, ◌∙◌, arith, length-append, pos}
use Rattle.std.proofs.lemmas.List.{drop_at, drop_more, length-replicate, take_at}
use Rattle.fixed_complex.specs.declared.Sample.{Sample}
use Rattle.lane_kernels.specs.Kernels.{held_sums}
use Rattle.noise_script.specs.Effects.{added_by, added_by_all, after_item, after_items, silence, spiked}
use Rattle.noise_script.specs.Noise.{generator_of, noise_samples}
use Rattle.noise_script.specs.declared.Item.{Item}
use Rattle.noise_script.specs.declared.Item.TheVariants.{Lead, Trail, Uniform, Spike, Cut}

pub spiked_at : (at : ℕ) (spike : Sample) (samples : List Sample) → at < length samples → spiked at spike samples ≡ take at samples ++ (held_sums (take 1 (drop at samples)) (spike ∷ []) ++ drop 1 (drop at samples))
unfolding spiked held_sums
spiked_at at spike [] l = absurd (omega arith)
spiked_at zero spike (sample ∷ samples) l = refl
spiked_at (suc at) spike (sample ∷ samples) l = ap (λ more. sample ∷ more) (spiked_at at spike samples (omega arith))

pub spiked_none : (at : ℕ) (spike : Sample) (samples : List Sample) → length samples ≤ at → spiked at spike samples ≡ samples
unfolding spiked
spiked_none at spike [] l = refl
spiked_none zero spike (sample ∷ samples) l = absurd (omega arith)
spiked_none (suc at) spike (sample ∷ samples) l = ap (λ more. sample ∷ more) (spiked_none at spike samples (omega arith))

pub after_more : (item : Item) (items : List Item) (samples : List Sample) → after_items (item ∷ items) samples ≡ after_items items (after_item item samples)
unfolding after_items
after_more item items samples = refl

pub after_none : (samples : List Sample) → after_items [] samples ≡ samples
unfolding after_items
after_none samples = refl

pub added_more : (item : Item) (items : List Item) → added_by_all (item ∷ items) ≡ added_by item + added_by_all items
unfolding added_by_all
added_more item items = refl

pub added_none : added_by_all [] ≡ 0
unfolding added_by_all
added_none = refl

-- what stands behind an item's place
pub rest_added : (items : List Item) (i : ℕ) (d : Item) → i < length items → added_by_all (drop i items) ≡ added_by (get_or items i d) + added_by_all (drop (i + 1) items)
rest_added items i d l = ap added_by_all (drop_more items i d l) ∙ added_more (get_or items i d) (drop (i + 1) items)

pub rest_after : (items : List Item) (i : ℕ) (d : Item) (samples : List Sample) → i < length items → after_items (drop i items) samples ≡ after_items (drop (i + 1) items) (after_item (get_or items i d) samples)
rest_after items i d samples l = ap (λ x. after_items x samples) (drop_more items i d l) ∙ after_more (get_or items i d) (drop (i + 1) items) samples

-- what is behind others, put in front
pub rotated : (xs ys : List Sample) → drop (length xs) (xs ++ ys) ++ take (length xs) (xs ++ ys) ≡ ys ++ xs
rotated xs ys = ap (λ x. x ++ take (length xs) (xs ++ ys)) (drop_at xs ys (length xs) refl) ∙ ap (λ x. ys ++ x) (take_at xs ys (length xs) refl)

-- each item by itself
pub after_lead : (count : ℕ) (samples : List Sample) → after_item (Lead count) samples ≡ silence count ++ samples
unfolding after_item
after_lead count samples = refl

pub after_trail : (count : ℕ) (samples : List Sample) → after_item (Trail count) samples ≡ samples ++ silence count
unfolding after_item
after_trail count samples = refl

pub after_uniform : (bound seed : ℕ) (samples : List Sample) → after_item (Uniform bound seed) samples ≡ held_sums samples (noise_samples bound (length samples) (generator_of seed))
unfolding after_item
after_uniform bound seed samples = refl

pub after_spike : (at : ℕ) (i q : ℤ) (samples : List Sample) → after_item (Spike at i q) samples ≡ spiked at (record { i = i; q = q }) samples
unfolding after_item
after_spike at i q samples = refl

pub after_cut : (at count : ℕ) (samples : List Sample) → after_item (Cut at count) samples ≡ take at samples ++ drop (at + count) samples
unfolding after_item
after_cut at count samples = refl

-- a frame's script
pub after_frame : (lead bound seed trail : ℕ) (samples : List Sample) → after_items (Lead lead ∷ Uniform bound seed ∷ Trail trail ∷ []) samples ≡ held_sums (silence lead ++ samples) (noise_samples bound (lead + length samples) (generator_of seed)) ++ silence trail
after_frame lead bound seed trail samples =
    let longer : List Sample = silence lead ++ samples in
    let size : length longer ≡ lead + length samples = length-append (silence lead) samples ∙ ap (λ n. n + length samples) (length-replicate lead (record { i = pos 0; q = pos 0 })) in
    after_more (Lead lead) (Uniform bound seed ∷ Trail trail ∷ []) samples
    ∙ ap (λ x. after_items (Uniform bound seed ∷ Trail trail ∷ []) x) (after_lead lead samples)
    ∙ after_more (Uniform bound seed) (Trail trail ∷ []) longer
    ∙ ap (λ x. after_items (Trail trail ∷ []) x) (after_uniform bound seed longer ∙ ap (λ n. held_sums longer (noise_samples bound n (generator_of seed))) size)
    ∙ after_more (Trail trail) [] (held_sums longer (noise_samples bound (lead + length samples) (generator_of seed)))
    ∙ after_none (after_item (Trail trail) (held_sums longer (noise_samples bound (lead + length samples) (generator_of seed))))
    ∙ after_trail trail (held_sums longer (noise_samples bound (lead + length samples) (generator_of seed)))
