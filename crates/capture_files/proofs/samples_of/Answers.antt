use Rattle.std.proofs.Common.{◌≡◌, [], ap, arith, sym, ◌∙◌}
use Rattle.std.proofs.lemmas.Grind.{common_steps}
use Rattle.std.proofs.lemmas.List.Elements.{All-append, All-cons, All-nil}
use Rattle.fixed_complex.specs.Samples.{IsSample}
use Rattle.capture_files.proofs.Bytes.{samples_back, samples_more}
use Rattle.capture_files.specs.Captures.{bytes_of_samples, samples_in}
use Rattle.capture_files.proofs.samples_of.Goals as goal

pub loop-k-preserved : goal.loop-k-preserved
loop-k-preserved c = record {
  bytes = rw c.in_ok-push.ensures.items (samples_more _ _ c.args.bytes.now c.loop-k.k c.loop-k.invariant.bytes c.sample_of.ensures.bytes);
  samples = rw c.in_ok-push.ensures.items (All-append IsSample c.loop-k.samples.items _ c.loop-k.invariant.samples (All-cons IsSample c.sample_of.result [] c.sample_of.ensures.sample (All-nil IsSample)));
  count = grind (arith, common_steps);
}

pub returns-clause-read : goal.returns-clause-read
returns-clause-read c =
    let same : bytes_of_samples c.loop-k.samples.items ≡ c.args.bytes.now = grind (arith, common_steps) in
    sym (samples_back c.loop-k.samples.items c.loop-k.invariant.samples) ∙ ap samples_in same
