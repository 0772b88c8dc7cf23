use Rattle.std.proofs.Common.{◌≡◌, ◌+◌, ◌++◌, take, pos, true, false, ap, sym, ◌∙◌, subst, append_assoc, rules}
use Rattle.std.specs.Prelude.{if◌then◌else◌}
use Rattle.std.specs.Option.{is_some}
use Rattle.std.proofs.lemmas.List.{take_more}
use Rattle.fixed_complex.specs.declared.Sample.{Sample}
use Rattle.frame_receiver.specs.Receiving.{Stands}
use Rattle.library_tour.proofs.OneFrame.{counted, few_counted}
use Rattle.library_tour.proofs.count_frames.Goals as goal
use Rattle.library_tour.proofs.count_frames.Goals.{then-is_some, else-is_some}

pub loop-k-preserved : goal.loop-k-preserved
loop-k-preserved c =
    let samples = c.args.samples.now in
    let k = c.loop-k.k in
    let silent : Sample = record { i = pos 0; q = pos 0 } in
    let after : c.if-is_some.count ≡ (if is_some c.push.result then c.loop-k.count + 1 else c.loop-k.count) = elim c.if-is_some.branch [
      | then-is_some w ↦ let some : is_some c.push.result ≡ true = sym c.is_some.ensures ∙ w.if-is_some.true in rw some w.count-is
      | else-is_some w ↦ let none : is_some c.push.result ≡ false = sym c.is_some.ensures ∙ w.if-is_some.false in rw none w.count-is
    ] in
    record {
      taken = search rules;
      few = few_counted c.push.result c.loop-k.count c.if-is_some.count k after c.loop-k.invariant.few;
      stands = λ before heard has.
          let so_far = c.loop-k.invariant.stands before heard has in
          let more = c.push.ensures.stands (before ++ take k samples) (heard ++ so_far.0) so_far.2 in
          let all = counted c.push.new.self _ heard so_far.0 c.push.result c.push.new.self.psdu c.loop-k.count c.if-is_some.count so_far.1 after more in
          (all.0, all.1, subst (λ list. Stands c.push.new.self list (heard ++ all.0)) (append_assoc before (take k samples) _ ∙ sym (ap (λ list. before ++ list) (take_more samples k silent c.loop-k-test.true))) all.2);
    }
