-- What items do to samples (own).
use Rattle.std.specs.Prelude.{ℕ, zero, suc, ◌+◌, List, [], ◌∷◌, ◌++◌, length, take, drop, replicate, pos}
use Rattle.fixed_complex.specs.declared.Sample.{Sample}
use Rattle.lane_kernels.specs.Kernels.{held_sum, held_sums}
use Rattle.noise_script.specs.Noise.{generator_of, noise_samples}
use Rattle.noise_script.specs.declared.Item.{Item}
use Rattle.noise_script.specs.declared.Item.TheVariants.{Lead, Trail, Uniform, Spike, Cut}

-- silent samples, so many
abbrev pub silence : ℕ → List Sample
silence count = replicate count (record { i = pos 0; q = pos 0 })

-- a sample is added to the one at a place, if there is one
unfoldable pub spiked : ℕ → Sample → List Sample → List Sample
spiked at spike [] = []
spiked zero spike (sample ∷ samples) = held_sum sample spike ∷ samples
spiked (suc at) spike (sample ∷ samples) = sample ∷ spiked at spike samples

-- the samples after an item
unfoldable pub after_item : Item → List Sample → List Sample
after_item (Lead count) samples = silence count ++ samples
after_item (Trail count) samples = samples ++ silence count
after_item (Uniform bound seed) samples =
    held_sums samples (noise_samples bound (length samples) (generator_of seed))
after_item (Spike at i q) samples = spiked at (record { i = i; q = q }) samples
after_item (Cut at count) samples = take at samples ++ drop (at + count) samples

-- the samples after items, one after the other
unfoldable pub after_items : List Item → List Sample → List Sample
after_items [] samples = samples
after_items (item ∷ items) samples = after_items items (after_item item samples)

-- how many samples an item adds
abbrev pub added_by : Item → ℕ
added_by (Lead count) = count
added_by (Trail count) = count
added_by (Uniform bound seed) = 0
added_by (Spike at i q) = 0
added_by (Cut at count) = 0

-- how many samples items add
unfoldable pub added_by_all : List Item → ℕ
added_by_all [] = 0
added_by_all (item ∷ items) = added_by item + added_by_all items
