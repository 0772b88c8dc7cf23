use Rattle.std.proofs.Common.{◌≡◌, ◌+◌, ◌∙◌, [], ◌∷◌, ◌++◌, length, take, drop, arith, refl}
use Rattle.std.specs.Prelude.{Some, None}
use Rattle.frame_reader.specs.Decisions.{plain_decisions}
use Rattle.frame_receiver.specs.declared.receiver.Found.{Found}
use Rattle.frame_receiver.proofs.Answered.{first_in_noise, frames_grow}
use Rattle.frame_receiver.proofs.Pushing.{all_pairs, front_read, goes_on_within, hears_frame, looks, no_edge_settles, searches, takes_symbol}
use Rattle.frame_receiver.proofs.receiver.Receiver.push.Goals as goal
use Rattle.frame_receiver.proofs.receiver.Receiver.push.Goals.{else-edge-via-then-edge+else-self-count, else-edge-via-else-edge}

pub returns-then-self-count-clause-stands : goal.returns-then-self-count-clause-stands
returns-then-self-count-clause-stands c = λ samples heard stands.
    let before = rw c.in-None.is at (rw (← c.self.view_is) at stands) in
    let is = c.push-edge.ensures.tail samples before.tail in
    let settles = (c.if-edge.ensures.edge samples before.tail).0 refl in
    let number : c.push-edge.new.self.count ≡ length samples + 1 = omega (arith, c.push-edge.ensures.count, before.tail.count) in
    looks samples c.args.sample heard c.self.inside.tail c.push-edge.new.self c.self.inside.from c.chosen-self-inside.result c.self.inside.estimate
    c.chosen-self-inside.new.estimate c.self.inside.trellis c.chosen-self-inside.new.trellis _ c.self.inside.spent (c.self.inside.spent + 1 + 347) before is settles
    (omega (arith, c.count-count.ensures, number, c.if-self-count.true)) c.chosen-self-inside.ensures.stands (rw number at c.chosen-self-inside.ensures.place)
    c.chosen-self-inside.ensures.begun c.chosen-self-inside.ensures.symbols (c.chosen-self-inside.ensures.opens _ is) (c.chosen-self-inside.ensures.estimate _ is)
    (c.chosen-self-inside.ensures.none _ is)

pub returns-else-edge-clause-stands : goal.returns-else-edge-clause-stands
returns-else-edge-clause-stands c = λ samples heard stands.
    let before = rw c.in-None.is at (rw (← c.self.view_is) at stands) in
    let is = c.push-edge.ensures.tail samples before.tail in
    let number : c.push-edge.new.self.count ≡ length samples + 1 = omega (arith, c.push-edge.ensures.count, before.tail.count) in
    elim c.else-edge.branch [
      | else-edge-via-then-edge+else-self-count w ↦
          rw (w.self-is, c.in-None.is) (searches samples c.args.sample heard c.self.inside.tail c.push-edge.new.self c.self.inside.from c.self.inside.estimate
          c.self.inside.estimate c.self.inside.trellis c.self.inside.trellis _ c.self.inside.spent (c.self.inside.spent + 1) before is before.state.empty
          (no_edge_settles samples c.args.sample c.self.inside.from (λ settles behind. absurd (omega (arith, c.count-count.ensures, number, w.if-self-count.false)))))
      | else-edge-via-else-edge w ↦
          rw (w.self-is, c.in-None.is) (searches samples c.args.sample heard c.self.inside.tail c.push-edge.new.self c.self.inside.from c.self.inside.estimate
          c.self.inside.estimate c.self.inside.trellis c.self.inside.trellis _ c.self.inside.spent (c.self.inside.spent + 1) before is before.state.empty
          (no_edge_settles samples c.args.sample c.self.inside.from (λ settles behind.
          let edge = (w.if-edge.ensures.edge samples before.tail).1 settles in
          absurd (cc))))
    ]

pub returns-then-count-at-clause-stands : goal.returns-then-count-at-clause-stands
returns-then-count-at-clause-stands c = λ samples heard stands.
    let before = rw c.in-Some.is at (rw (← c.self.view_is) at stands) in
    let is = c.push-edge.ensures.tail samples before.tail in
    let number : c.push-edge.new.self.count ≡ length samples + 1 = omega (arith, c.push-edge.ensures.count, before.tail.count) in
    rw c.in-Some.is (goes_on_within samples c.args.sample heard c.self.inside.tail c.push-edge.new.self c.self.inside.from c.in-Some.at c.self.inside.estimate
    c.self.inside.trellis _ c.self.inside.spent (c.self.inside.spent + 1) before is (omega (arith, c.count-count.ensures, number, c.if-count-at.true)))

pub returns-then-at-symbols_in-clause-stands : goal.returns-then-at-symbols_in-clause-stands
returns-then-at-symbols_in-clause-stands c = λ samples heard stands.
    let before = rw c.in-Some.is at (rw (← c.self.view_is) at stands) in
    let is = c.push-edge.ensures.tail samples before.tail in
    let number : c.push-edge.new.self.count ≡ length samples + 1 = omega (arith, c.push-edge.ensures.count, before.tail.count) in
    takes_symbol samples c.args.sample heard c.self.inside.tail c.push-edge.new.self c.self.inside.from c.in-Some.at c.self.inside.estimate
    c.self.inside.trellis c.hear_last.new.trellis _ c.self.inside.spent (c.self.inside.spent + 1 + 217) before is (omega (arith, c.count-count.ensures, number, c.if-count-at.false))
    (rw c.symbols_in.ensures.value at c.if-at-symbols_in.true) (c.hear_last.ensures.takes _ is)

pub returns-clause-stands : goal.returns-clause-stands
returns-clause-stands c = λ samples heard stands.
    let before = rw c.in-Some.is at (rw (← c.self.view_is) at stands) in
    let is = c.push-edge.ensures.tail samples before.tail in
    let number : c.push-edge.new.self.count ≡ length samples + 1 = omega (arith, c.push-edge.ensures.count, before.tail.count) in
    let at = c.in-Some.at in
    let found : Found = record { start = at.place; rate = at.header.rate; length = at.header.length; seed = c.finish_field-seed.result } in
    let left = before.state.more in
    let last : at.symbols + 1 ≡ c.symbols_in.result = omega (arith, c.symbols_in.ensures.value, c.if-at-symbols_in.false) in
    let long : length c.finish_field-seed.new.octets ≡ c.self.inside.octets.len =
    omega (arith, c.finish_field-seed.ensures.len, c.deref_mut-2.ensures.len) in
    let octets = front_read c.self.inside.octets.items c.finish_field-seed.new.octets c.self.inside.octets.len c.from-self-inside.result at.header.length long c.from-self-inside.ensures in
    rw octets (hears_frame samples c.args.sample heard c.self.inside.tail c.push-edge.new.self c.self.inside.from c.count-count.result at c.self.inside.estimate
    c.self.inside.trellis c.hear_last.new.trellis c.finish_field-seed.new.trellis _ (take at.header.length c.finish_field-seed.new.octets) c.self.inside.spent
    (c.self.inside.spent + 1 + 217) found before is (c.count-count.ensures ∙ number) (omega (arith, c.count-count.ensures, number, c.if-count-at.false))
    (omega (arith, c.symbols_in.ensures.value, c.if-at-symbols_in.false)) (c.hear_last.ensures.takes _ is) refl refl refl
    (λ pairs. c.finish_field-seed.ensures.field (plain_decisions (drop at.place (samples ++ c.args.sample ∷ [])))
    (all_pairs c.hear_last.new.trellis (plain_decisions (drop at.place (samples ++ c.args.sample ∷ []))) at c.symbols_in.result last c.symbols_in.ensures.value
    c.symbols_in.ensures.all pairs)) c.finish_field-seed.ensures.stands)

pub returns-then-self-count-clause-grows : goal.returns-then-self-count-clause-grows
returns-then-self-count-clause-grows c = λ samples heard stands. frames_grow _ _ samples _ heard None [] stands (returns-then-self-count-clause-stands c samples heard stands)

pub returns-then-self-count-clause-in_noise : goal.returns-then-self-count-clause-in_noise
returns-then-self-count-clause-in_noise c = λ samples more heard frames stands has. first_in_noise _ samples more _ heard frames (returns-then-self-count-clause-stands c samples heard stands) has

pub returns-else-edge-clause-grows : goal.returns-else-edge-clause-grows
returns-else-edge-clause-grows c = λ samples heard stands. frames_grow _ _ samples _ heard None [] stands (returns-else-edge-clause-stands c samples heard stands)

pub returns-else-edge-clause-in_noise : goal.returns-else-edge-clause-in_noise
returns-else-edge-clause-in_noise c = λ samples more heard frames stands has. first_in_noise _ samples more _ heard frames (returns-else-edge-clause-stands c samples heard stands) has

pub returns-then-count-at-clause-grows : goal.returns-then-count-at-clause-grows
returns-then-count-at-clause-grows c = λ samples heard stands. frames_grow _ _ samples _ heard None [] stands (returns-then-count-at-clause-stands c samples heard stands)

pub returns-then-count-at-clause-in_noise : goal.returns-then-count-at-clause-in_noise
returns-then-count-at-clause-in_noise c = λ samples more heard frames stands has. first_in_noise _ samples more _ heard frames (returns-then-count-at-clause-stands c samples heard stands) has

pub returns-then-at-symbols_in-clause-grows : goal.returns-then-at-symbols_in-clause-grows
returns-then-at-symbols_in-clause-grows c = λ samples heard stands. frames_grow _ _ samples _ heard None [] stands (returns-then-at-symbols_in-clause-stands c samples heard stands)

pub returns-then-at-symbols_in-clause-in_noise : goal.returns-then-at-symbols_in-clause-in_noise
returns-then-at-symbols_in-clause-in_noise c = λ samples more heard frames stands has. first_in_noise _ samples more _ heard frames (returns-then-at-symbols_in-clause-stands c samples heard stands) has

pub returns-clause-grows : goal.returns-clause-grows
returns-clause-grows c = λ samples heard stands.
    let at = c.in-Some.at in
    let found : Found = record { start = at.place; rate = at.header.rate; length = at.header.length; seed = c.finish_field-seed.result } in
    frames_grow _ _ samples _ heard (Some found) _ stands (returns-clause-stands c samples heard stands)

pub returns-clause-in_noise : goal.returns-clause-in_noise
returns-clause-in_noise c = λ samples more heard frames stands has. first_in_noise _ samples more _ _ frames (returns-clause-stands c samples heard stands) has
