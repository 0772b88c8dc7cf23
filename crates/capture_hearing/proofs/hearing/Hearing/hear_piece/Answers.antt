use Rattle.std.proofs.Common.{◌+◌, ◌≤◌, ◌++◌, length, take, refl}
use Rattle.modem_ports.specs.Limits.{most_input}
use Rattle.capture_hearing.proofs.MoreSamples.{few_samples, piece_on}
use Rattle.capture_hearing.proofs.hearing.Hearing.hear_piece.Goals as goal

pub hear_samples-requires-clause-room : goal.hear_samples-requires-clause-room
hear_samples-requires-clause-room c =
    let room : c.self.inside.count + length c.args.bytes.now ≤ most_input = rw (← c.self.view_is) at c.requires.room in
    few_samples _ _ c.args.bytes.now c.feed_all-whole.new.self (take c.feed_all-whole.result c.feed_all-whole.new.out) room c.feed_all-whole.ensures.bytes c.self.invariant.1

pub invariant_of-self : goal.invariant_of-self
invariant_of-self c =
    let room : c.self.inside.count + length c.args.bytes.now ≤ most_input = rw (← c.self.view_is) at c.requires.room in (
      c.self.invariant.0 ++ c.args.bytes.now,
      piece_on _ c.self.invariant.0 c.args.bytes.now c.feed_all-whole.new.self (take c.feed_all-whole.result c.feed_all-whole.new.out)
          _ c.hear_samples.new.receiver c.hear_samples.new.lines room refl c.feed_all-whole.ensures.bytes c.feed_all-whole.ensures.samples c.hear_samples.ensures.heard c.hear_samples.ensures.bounded c.self.invariant.1,
    )

pub returns-clause-heard : goal.returns-clause-heard
returns-clause-heard c = λ before heard.
    let room : c.self.inside.count + length c.args.bytes.now ≤ most_input = rw (← c.self.view_is) at c.requires.room in
    piece_on _ before c.args.bytes.now c.feed_all-whole.new.self (take c.feed_all-whole.result c.feed_all-whole.new.out)
    _ c.hear_samples.new.receiver c.hear_samples.new.lines room refl c.feed_all-whole.ensures.bytes c.feed_all-whole.ensures.samples c.hear_samples.ensures.heard c.hear_samples.ensures.bounded (rw (← c.self.view_is) at heard)
