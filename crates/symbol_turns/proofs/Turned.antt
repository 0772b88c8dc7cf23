-- A sample before the symbols, and one of a symbol that is turned.
use Rattle.std.proofs.Common.{inl, inr, length, map, ◌≡◌, ℕ, ◌+◌, ◌-◌, ◌/◌, ◌<◌, ◌≤◌, List, cond, ap, sym, ◌∙◌}
use Rattle.std.proofs.lemmas.Bool.{lt-ltb, le-ltb}
use Rattle.fixed_complex.specs.declared.Cx.{Cx}
use Rattle.fixed_complex.specs.declared.Sample.{Sample}
use Rattle.fixed_complex.specs.Samples.{AreSamples, IsSample, pair_of, sample_at}
use Rattle.fixed_complex.proofs.Samples.{is_sample_at}
use Rattle.fixed_complex.specs.Pairs.{scaled_product}
use Rattle.lane_kernels.proofs.Holding.{held-fits}
use Rattle.std.proofs.lemmas.Bool.{cases_lt}
use Rattle.std.proofs.lemmas.List.Elements.{All-map}
use Rattle.std.specs.List.{range_with_len}
use Rattle.symbol_turns.specs.Turning.{turn_of_symbol, turned_at, turned_sample, turned_samples}

pub turned_before : (start step : ℕ) (samples : List Sample) (place : ℕ) → place < start + 320 → turned_at start step samples place ≡ sample_at samples place
turned_before start step samples place before =
    ap (λ b. cond b (sample_at samples place) (turned_sample (turn_of_symbol step ((place - (start + 320)) / 80)) (sample_at samples place))) (lt-ltb place (start + 320) before)

pub turned_there : (start step : ℕ) (samples : List Sample) (place : ℕ) → start + 320 ≤ place
    → turned_at start step samples place ≡ turned_sample (turn_of_symbol step ((place - (start + 320)) / 80)) (sample_at samples place)
turned_there start step samples place behind =
    ap (λ b. cond b (sample_at samples place) (turned_sample (turn_of_symbol step ((place - (start + 320)) / 80)) (sample_at samples place))) (le-ltb place (start + 320) behind)

-- a sample that was turned by the turn of its symbol
pub turned_is : (start step : ℕ) (samples : List Sample) (place : ℕ) (turn : Cx) (sample result : Sample) → start + 320 ≤ place
    → turn ≡ turn_of_symbol step ((place - (start + 320)) / 80) → sample ≡ sample_at samples place → result ≡ turned_sample turn sample
    → result ≡ turned_at start step samples place
turned_is start step samples place turn sample result behind same_turn same is =
    is ∙ ap (λ t. turned_sample t sample) same_turn ∙ ap (turned_sample (turn_of_symbol step ((place - (start + 320)) / 80))) same ∙ sym (turned_there start step samples place behind)

-- turned samples have 16 bits
held_is_sample : (turn : Cx) (sample : Sample) → IsSample (turned_sample turn sample)
held_is_sample turn sample = record { i = held-fits (scaled_product turn (pair_of sample)).re; q = held-fits (scaled_product turn (pair_of sample)).im }

turned_is_sample : (start step : ℕ) (samples : List Sample) → AreSamples samples → (place : ℕ) → IsSample (turned_at start step samples place)
turned_is_sample start step samples are place =
    elim (cases_lt place (start + 320)) [
      | inl before ↦ rw (turned_before start step samples place before) (is_sample_at samples are place)
      | inr behind ↦ rw (turned_there start step samples place behind) (held_is_sample (turn_of_symbol step ((place - (start + 320)) / 80)) (sample_at samples place))
    ]

pub turned_are_samples : (start step : ℕ) (samples : List Sample) → AreSamples samples → AreSamples (turned_samples start step samples)
unfolding turned_samples
turned_are_samples start step samples are =
    All-map IsSample (turned_at start step samples) (range_with_len 0 (length samples)) (λ k d inside. turned_is_sample start step samples are _)
