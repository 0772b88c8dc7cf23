use Rattle.std.proofs.Common.{rules}
use Rattle.capture_files.specs.Captures.{bytes_of_samples}
use Rattle.modem_ports.specs.Told.{TakesPrefix}
use Rattle.capture_files.proofs.Pieces.{TakesUpTo-more, TakesUpTo-prefix}
use Rattle.capture_files.proofs.write_samples.Goals as goal

pub loop-some-preserved : goal.loop-some-preserved
loop-some-preserved g c = record {
  size = search rules;
  took = TakesUpTo-more _ _ _ c.args.samples.now _ c.in-Some.some.now _ _ c.loop-some.invariant.took c.in-Some.ensures.steps.1.0 c.put_samples-count.ensures.bytes c.in_ok-write_all.ensures.ok;
  counted = search rules;
}

pub returns-in_err-write_all-clause-prefix : goal.returns-in_err-write_all-clause-prefix
returns-in_err-write_all-clause-prefix g c =
    let taken : TakesPrefix (g.K.Sink.taken c.args.sink.now) (bytes_of_samples c.args.samples.now) (g.K.Sink.taken c.write_all.new.sink) =
    TakesUpTo-prefix _ _ _ c.args.samples.now _ c.in-Some.some.now _ _ c.loop-some.invariant.took c.in-Some.ensures.steps.1.0 c.put_samples-count.ensures.bytes c.in_err-write_all.ensures.prefix in
    search rules
