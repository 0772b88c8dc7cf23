use Rattle.std.proofs.Common.{◌≡◌, ◌++◌, length-append, append_assoc, sym, ap, ◌∙◌, subst, arith, rules}
use Rattle.std.specs.Slice.Iter.{chunks_rest}
use Rattle.capture_hearing.specs.Hearing.{HasHeard}
use Rattle.capture_hearing.proofs.hearing.Hearing.hear_all.Goals as goal

pub loop-some-preserved : goal.loop-some-preserved
loop-some-preserved c =
    let so_far = c.loop-some.invariant.done in
    let some = c.in-Some.some.now in
    let rest : chunks_rest c.loop-some.some-iterator ≡ some ++ chunks_rest c.next.new.self = c.in-Some.ensures.steps.1.0 in
    record {
      size = search rules;
      done = (
        so_far.0 ++ some,
        so_far.1 ∙ ap (λ list. so_far.0 ++ list) rest ∙ sym (append_assoc so_far.0 some (chunks_rest c.next.new.self)),
        omega (arith, so_far.2, c.hear_piece.ensures.count, length-append so_far.0 some),
        λ before has. subst (HasHeard c.hear_piece.new.self) (append_assoc before so_far.0 some) (c.hear_piece.ensures.heard (before ++ so_far.0) (so_far.3 before has)),
      );
      counted = search rules;
    }
