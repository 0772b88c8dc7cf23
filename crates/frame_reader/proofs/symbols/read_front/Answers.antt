use Rattle.std.proofs.Common.{◌≡◌, ap, subst, ◌∙◌}
use Rattle.std.specs.Prelude.{ℕ, List}
use Rattle.rate_table.specs.declared.Rate.TheVariants.{R6}
use Rattle.signal_field.specs.Headers.{IsReadAs}
use Rattle.frame_reader.specs.Decisions.{decisions_by, estimate_from}
use Rattle.frame_reader.proofs.symbols.read_front.Goals as goal

pub returns-clause-says : goal.returns-clause-says
returns-clause-says g c =
    let decided = g.D.Decider.decided in
    let samples = c.args.samples.now in
    let same : c.signal_decisions-decisions.result ≡ decisions_by decided samples R6 0 =
    c.signal_decisions-decisions.ensures
    ∙ c.decide-signal.ensures.list
    ∙ ap (λ estimate. decided R6 0 estimate c.body_at-body.result) c.estimate_of_channel.ensures.value
    ∙ ap (decided R6 0 (estimate_from samples)) c.body_at-body.ensures in
    subst (λ (decisions : List ℕ). IsReadAs decisions c.read_header.result) same c.read_header.ensures.read
