use Rattle.std.proofs.Common.{◌≡◌, ◌++◌, ◌∙◌, take, ap, rules}
use Rattle.circular_buffer.specs.Buffer.{keep_last}
use Rattle.frame_receiver.proofs.Skimming.{none_settles, settle, tail_skims}
use Rattle.frame_receiver.proofs.tail.Tail.skim.Goals as goal

pub returns-clause-tail : goal.returns-clause-tail
returns-clause-tail c = λ before tail.
    let taken = c.run_through-taken.result.0 in
    let stands = rw (← c.self.view_is) at tail in
    let settles = settle before c.self.inside.window.items c.settling-settling.result.now c.self.inside.count c.self.inside.quiet c.min-most.result stands c.if-self-lt1024.false c.settling-settling.ensures.at c.settling-settling.ensures.few (search rules) in
    let kept = c.self.inside.window.items ++ take taken c.args.samples.now in
    let items : c.extend_from_slice.new.self.items ≡ keep_last 1024 kept = ap (λ b. b.items) c.extend_from_slice.ensures ∙ ap (λ n. keep_last n kept) c.self.invariant.0 in
    tail_skims before c.self.inside.window.items (take c.min-most.result c.settling-settling.result.now) c.args.samples.now c.extend_from_slice.new.self.items c.self.inside.count c.self.inside.quiet
    c.min-most.result taken c.run_through-taken.result.1 stands settles (search rules) (search rules) items c.run_through-taken.ensures.run

pub returns-clause-none : goal.returns-clause-none
returns-clause-none c = λ before tail n inside.
    let stands = rw (← c.self.view_is) at tail in
    let settles = settle before c.self.inside.window.items c.settling-settling.result.now c.self.inside.count c.self.inside.quiet c.min-most.result stands c.if-self-lt1024.false c.settling-settling.ensures.at c.settling-settling.ensures.few (search rules) in
    none_settles before (take c.min-most.result c.settling-settling.result.now) c.args.samples.now c.self.inside.quiet c.min-most.result n settles (search rules) (search rules) (c.run_through-taken.ensures.none n inside)
