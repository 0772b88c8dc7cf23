use Rattle.std.proofs.Common.{ap, ◌∙◌}
use Rattle.frame_search.specs.Match.{part}
use Rattle.carrier_equaliser.specs.Estimates.{estimate_of}
use Rattle.carrier_equaliser.specs.Received.{received}
use Rattle.frame_reader.specs.Decisions.{estimate_from}
use Rattle.frame_reader.proofs.symbols.estimate_of_channel.Goals as goal

pub returns-clause-value : goal.returns-clause-value
unfolding estimate_from
returns-clause-value c =
    let first = c.carriers_of-first.ensures.carriers ∙ ap received c.body_at.ensures in
    let second = c.carriers_of-second.ensures.carriers ∙ ap received c.body_at-2.ensures in
    c.from_long.ensures
    ∙ ap (λ carriers. estimate_of carriers c.carriers_of-second.result) first
    ∙ ap (estimate_of (received (part c.args.samples.now 192 64))) second
