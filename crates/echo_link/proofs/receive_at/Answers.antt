use Rattle.frame_reader.specs.Decisions.{plain_decisions}
use Rattle.frame_starts.specs.declared.AtFault.TheVariants.{BadHeader, CutAt}
use Rattle.echo_link.proofs.There.{heard_in_echoes, no_fault_in_echoes}
use Rattle.echo_link.proofs.receive_at.Goals as goal

pub returns-clause-heard : goal.returns-clause-heard
unfolding plain_decisions
returns-clause-heard c = c.read_at.ensures.heard

pub returns-clause-cut : goal.returns-clause-cut
unfolding plain_decisions
returns-clause-cut c = c.read_at.ensures.cut

pub returns-clause-bad_header : goal.returns-clause-bad_header
unfolding plain_decisions
returns-clause-bad_header c = c.read_at.ensures.bad_header

pub returns-clause-in_echoes : goal.returns-clause-in_echoes
returns-clause-in_echoes c = λ echoed has at.
    heard_in_echoes c.one_frame_at.ensures.no_other c.an_echoed_frame_is_read.ensures.there c.args.capture.now c.args.start c.read_at.result echoed has at (returns-clause-heard c)

pub returns-clause-whole_in_echoes : goal.returns-clause-whole_in_echoes
returns-clause-whole_in_echoes c = λ echoed place have need has at is.
    no_fault_in_echoes c.one_frame_at.ensures.no_other c.an_echoed_frame_is_read.ensures.there c.args.capture.now c.args.start (CutAt place have need) echoed has at (returns-clause-cut c place have need is)

pub returns-clause-header_in_echoes : goal.returns-clause-header_in_echoes
returns-clause-header_in_echoes c = λ echoed place has at is.
    no_fault_in_echoes c.one_frame_at.ensures.no_other c.an_echoed_frame_is_read.ensures.there c.args.capture.now c.args.start (BadHeader place) echoed has at (returns-clause-bad_header c place is)
