use Rattle.std.proofs.Common.{◌≡◌, ◌+◌, ◌∙◌, take, min, ap, sym, arith, inl, inr, rules}
use Rattle.std.specs.Prelude.{if◌then◌else◌}
use Rattle.std.proofs.lemmas.Bool.{cases_lt}
use Rattle.fixed_complex.specs.Samples.{sample_at}
use Rattle.lane_kernels.specs.Kernels.{is_loud}
use Rattle.frame_receiver.specs.Tails.{run_behind}
use Rattle.frame_receiver.proofs.Skimming.{calm_next, run_one_more}
use Rattle.frame_receiver.proofs.tail.run_through.Goals as goal

pub loop-n-preserved : goal.loop-n-preserved
loop-n-preserved c =
    let quiet = c.args.quiet in
    let settling = c.args.settling.now in
    let here = c.loop-n.n in
    let so_far = c.loop-n.invariant.run in
    let next = run_one_more quiet settling here c.loop-n-test.true in
    let most = c.loop-n.invariant.most in
    let rises = c.loop-n.invariant.rises in
    let is : c.run_after-run.result ≡ run_behind quiet (take (here + 1) settling) =
    c.run_after-run.ensures ∙ ap (λ run. if is_loud (sample_at settling here) then 0 else min 16 (run + 1)) so_far ∙ sym next in
    record {
      run = is;
      none = λ n inside run.
          elim (cases_lt n here) [
            | inl before ↦ c.loop-n.invariant.none n before run
            | inr not_before ↦ calm_next quiet c.loop-n.run here n settling c.ends_run.result so_far c.ends_run.ensures.1 c.if-ends_run.false (omega arith) run
          ];
      most = search rules;
      rises = search rules;
    }
