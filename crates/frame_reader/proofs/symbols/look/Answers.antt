use Rattle.std.proofs.Common.{ap, sym, subst, ◌∙◌}
use Rattle.std.specs.Prelude.{Option, Some, None, Result, Ok}
use Rattle.signal_field.specs.declared.Header.{Header}
use Rattle.signal_field.specs.declared.HeaderFault.{HeaderFault}
use Rattle.frame_reader.specs.Decisions.{plain_decisions}
use Rattle.frame_reader.specs.Frames.{SaysHeader}
use Rattle.frame_reader.proofs.Readings.{one_header}
use Rattle.frame_reader.proofs.symbols.look.Goals as goal

-- what stands in `Some`, and something else in `None`
abbrev read_of : Result Header HeaderFault → Option (Result Header HeaderFault) → Result Header HeaderFault
read_of other None = other
read_of other (Some read) = read

pub returns-clause-says : goal.returns-clause-says
unfolding plain_decisions
returns-clause-says c = c.read_front.ensures.says

pub returns-clause-opens : goal.returns-clause-opens
unfolding plain_decisions
returns-clause-opens c = λ header.
    let decisions = plain_decisions c.args.samples.now in
    let read = c.read_front.result in
    let like = sym c.matches_template.ensures.value ∙ c.if-not-matches_template.false in (
      (λ same. record { like = like; says = subst (SaysHeader decisions) (ap (read_of read) same) c.read_front.ensures.says }),
      (λ opens. ap Some (one_header decisions read (Ok header) c.read_front.ensures.says opens.says)),
    )
