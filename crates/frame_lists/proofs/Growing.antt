-- Larger bounds.
use Rattle.std.proofs.Common.{ℕ, ◌≤◌, Bool, true, false, List, [], ◌∷◌, arith, if◌then◌else◌}
use Rattle.fixed_complex.specs.declared.Cx.{Cx}
use Rattle.fixed_complex.specs.declared.Sample.{Sample}
use Rattle.plain_waves.specs.Nearness.{IsNearPlain}
use Rattle.frame_lists.specs.Laws.{BoundsMayGrow}
use Rattle.frame_lists.specs.Near.{SentFrame, bound_at, has_place}

pub near_wider : (a b : ℕ) (sample : Sample) (plain : Cx) → a ≤ b → IsNearPlain a sample plain → IsNearPlain b sample plain
near_wider a b sample plain more near = record { i = omega (arith, near.i); q = omega (arith, near.q) }

either : (test : Bool) (a b c d : ℕ) → a ≤ b → c ≤ d → (if test then a else c) ≤ (if test then b else d)
either true a b c d first second = first
either false a b c d first second = second

bound_grows : (bound larger : SentFrame → ℕ) (quiet louder : ℕ) (frames : List SentFrame) (place : ℕ) → ((frame : SentFrame) → bound frame ≤ larger frame) → quiet ≤ louder → bound_at bound quiet frames place ≤ bound_at larger louder frames place
unfolding bound_at
bound_grows bound larger quiet louder [] place grows more = more
bound_grows bound larger quiet louder (frame ∷ frames) place grows more =
    either (has_place frame place) (bound frame) (larger frame) (bound_at bound quiet frames place) (bound_at larger louder frames place) (grows frame) (bound_grows bound larger quiet louder frames place grows more)

pub bounds_may_grow : BoundsMayGrow
bounds_may_grow bound larger quiet louder capture frames grows more near = record {
  some = near.some;
  stand = near.stand;
  near = λ place inside.
      near_wider (bound_at bound quiet frames place) (bound_at larger louder frames place) _ _ (bound_grows bound larger quiet louder frames place grows more) (near.near place inside);
}
