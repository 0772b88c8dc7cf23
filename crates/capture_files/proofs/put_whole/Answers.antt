use Rattle.std.proofs.Common.{◌≡◌, ◌+◌, ◌++◌, ◌∷◌, [], take, set, arith, rules}
use Rattle.std.proofs.lemmas.List.{take_more_set}
use Rattle.std.proofs.lemmas.List.Elements.{All-append, All-cons, All-nil}
use Rattle.fixed_complex.specs.Samples.{IsSample}
use Rattle.capture_files.proofs.Bytes.{samples_more}
use Rattle.capture_files.proofs.put_whole.Goals as goal

pub loop-k-preserved : goal.loop-k-preserved
loop-k-preserved c =
    let out = c.loop-k.out in
    let k = c.loop-k.k in
    let one = c.sample_of.result in
    let more : take (k + 1) (set out k one) ≡ take k out ++ one ∷ [] = take_more_set out k one (omega arith) in
    record {
      bytes = rw more (samples_more _ _ c.args.bytes.now k c.loop-k.invariant.bytes c.sample_of.ensures.bytes);
      samples = rw more (All-append IsSample (take k out) _ c.loop-k.invariant.samples (All-cons IsSample one [] c.sample_of.ensures.sample (All-nil IsSample)));
      long = search rules;
    }
