use Rattle.std.proofs.Common.{◌≡◌, ◌∷◌, [], ◌++◌, ◌∙◌, ap}
use Rattle.circular_buffer.specs.Buffer.{keep_last}
use Rattle.frame_receiver.proofs.Settling.{edge_settles, enough_held, settles_edge, tail_settles, tail_short}
use Rattle.frame_receiver.proofs.tail.Tail.push.Goals as goal

pub returns-then-self-lt400-clause-tail : goal.returns-then-self-lt400-clause-tail
returns-then-self-lt400-clause-tail c = λ samples tail.
    let kept = c.self.inside.window.items ++ c.args.sample ∷ [] in
    let items : c.push_back.new.self.items ≡ keep_last 1024 kept = ap (λ b. b.items) c.push_back.ensures.items ∙ ap (λ n. keep_last n kept) c.self.invariant.0 in
    tail_short samples c.args.sample c.self.inside.window.items c.push_back.new.self.items c.self.inside.count c.self.inside.quiet (rw (← c.self.view_is) at tail) items
    c.if-self-lt400.true

pub returns-clause-tail : goal.returns-clause-tail
returns-clause-tail c = λ samples tail.
    let kept = c.self.inside.window.items ++ c.args.sample ∷ [] in
    let items : c.push_back.new.self.items ≡ keep_last 1024 kept = ap (λ b. b.items) c.push_back.ensures.items ∙ ap (λ n. keep_last n kept) c.self.invariant.0 in
    let inside = enough_held c.self.inside.window.items c.push_back.new.self.items c.args.sample c.self.inside.count c.self.invariant.1 items c.if-self-lt400.false in
    tail_settles samples c.args.sample c.back-settled.result c.self.inside.window.items c.push_back.new.self.items c.self.inside.count c.self.inside.quiet
    c.run_after-self-inside.result (rw (← c.self.view_is) at tail) items c.if-self-lt400.false inside c.back-settled.ensures c.run_after-self-inside.ensures

pub returns-clause-edge : goal.returns-clause-edge
returns-clause-edge c = λ samples tail.
    let kept = c.self.inside.window.items ++ c.args.sample ∷ [] in
    let items : c.push_back.new.self.items ≡ keep_last 1024 kept = ap (λ b. b.items) c.push_back.ensures.items ∙ ap (λ n. keep_last n kept) c.self.invariant.0 in
    let inside = enough_held c.self.inside.window.items c.push_back.new.self.items c.args.sample c.self.inside.count c.self.invariant.1 items c.if-self-lt400.false in
    let before = rw (← c.self.view_is) at tail in
    let settles = settles_edge samples c.args.sample c.back-settled.result c.self.inside.window.items c.push_back.new.self.items c.self.inside.count c.self.inside.quiet
    before items c.if-self-lt400.false inside c.back-settled.ensures in (
      λ edge.
          let ends = c.ends_run-edge.ensures.0 edge in
          edge_settles samples c.args.sample c.back-settled.result c.self.inside.window.items c.push_back.new.self.items c.self.inside.count c.self.inside.quiet before
          items c.if-self-lt400.false inside c.back-settled.ensures ends.0 ends.1,
      λ edge. c.ends_run-edge.ensures.1 (settles edge),
    )
