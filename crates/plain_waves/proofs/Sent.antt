-- The body that is sent is near the plain one, and small.
use Rattle.std.proofs.Common.{◌≡◌, ℕ, ◌<◌, List, refl}
use Rattle.fixed_complex.specs.declared.Cx.{Cx}
use Rattle.fixed_complex.specs.PairLists.{PairsWithin, entry}
use Rattle.fixed_complex.specs.Samples.{SamplesWithin, IsSampleWithin}
use Rattle.plain_waves.specs.Bodies.{all_times, plain_body, sent_body}
use Rattle.plain_waves.specs.Bounds.{FitASample}
use Rattle.plain_waves.specs.Nearness.{AreNearPlain, IsNearPlain}
use Rattle.plain_waves.proofs.Bodies.{IsBody, is_body}
use Rattle.plain_waves.proofs.Loads.{sent_within}
use Rattle.plain_waves.proofs.Places.{near-map, within-map}
use Rattle.fixed_complex.proofs.PairLists.{everywhere_within}
use Rattle.butterfly64.proofs.SampleBudgets.{near_sent}

pub near_plain : (xs : List Cx) → PairsWithin 954 xs → (n : ℕ) → n < 64 → IsNearPlain 1 (sent_body (entry xs) n) (plain_body (entry xs) n)
near_plain xs within n lt = let near_here = near_sent (entry xs) (everywhere_within 954 xs within) n lt in record { i = near_here.re; q = near_here.im }

pub bounded : (xs : List Cx) → PairsWithin 954 xs → FitASample xs → (n : ℕ) → n < 64 → IsSampleWithin 25057 (sent_body (entry xs) n)
bounded xs within fits n lt = sent_within xs n fits (near_plain xs within n lt)

-- the samples of a body that is sent
pub all_near : (xs : List Cx) → PairsWithin 954 xs → AreNearPlain 1 (all_times (sent_body (entry xs))) (all_times (plain_body (entry xs)))
all_near xs within = near-map 1 (sent_body (entry xs)) (plain_body (entry xs)) 64 (near_plain xs within)

pub all_bounded : (xs : List Cx) → PairsWithin 954 xs → FitASample xs → SamplesWithin 25057 (all_times (sent_body (entry xs)))
all_bounded xs within fits = within-map 25057 (sent_body (entry xs)) 64 (bounded xs within fits)

-- they are the body of what is carried by bin
pub is_sent_body : (xs : List Cx) (carried : ℕ → Cx) → PairsWithin 954 xs → FitASample xs → ((bin : ℕ) → bin < 64 → entry xs bin ≡ carried bin) → IsBody carried (all_times (sent_body (entry xs)))
is_sent_body xs carried within fits same =
    is_body xs carried (all_times (sent_body (entry xs))) same refl (all_near xs within) (all_bounded xs within fits)
