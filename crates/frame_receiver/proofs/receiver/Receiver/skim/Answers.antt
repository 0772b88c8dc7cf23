use Rattle.std.proofs.Common.{◌≡◌, ◌+◌, ◌++◌, take, sym, subst, rules}
use Rattle.frame_receiver.specs.Tails.{IsTailOf, SettlesEdge}
use Rattle.frame_receiver.proofs.Skimming.{skims_searching, skims_within, taken_of_front}
use Rattle.frame_receiver.proofs.receiver.Receiver.skim.Goals as goal
use Rattle.frame_receiver.proofs.receiver.Receiver.skim.Goals.{in-None, in-Some}

pub returns-clause-stands : goal.returns-clause-stands
returns-clause-stands c = λ before heard stands.
    let was = rw (← c.self.view_is) at stands in
    let samples = c.args.samples.now in
    let most = c.match-self.most in
    let taken = c.skim-taken.result in
    let front : take taken (take most samples) ≡ take taken samples = taken_of_front samples most taken c.skim-taken.ensures.within in
    let tail : IsTailOf c.skim-taken.new.self (before ++ take taken samples) =
    subst (λ list. IsTailOf c.skim-taken.new.self (before ++ list)) front (c.skim-taken.ensures.tail before was.tail) in
    elim c.match-self.branch [
      | in-None w ↦
          let searching = rw w.in-None.is at was in
          rw w.in-None.is (skims_searching before samples heard taken c.self.inside.tail c.skim-taken.new.self c.self.inside.from c.self.inside.estimate
          c.self.inside.trellis _ c.self.inside.spent _ searching (search rules) tail (λ k below settles.
          c.skim-taken.ensures.none before was.tail k below
          (subst (λ list. SettlesEdge (before ++ list)) (sym (taken_of_front samples most (k + 1) (search rules))) settles)))
      | in-Some w ↦
          let within = rw w.in-Some.is at was in
          rw w.in-Some.is (skims_within before samples heard taken c.self.inside.tail c.skim-taken.new.self c.self.inside.from w.in-Some.at c.self.inside.estimate
          c.self.inside.trellis _ c.self.inside.spent _ within (search rules) tail (search rules))
    ]
