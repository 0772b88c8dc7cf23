use Rattle.std.proofs.Common.{◌-◌, length, ap, ◌∙◌, refl, sym, arith, rules}
use Rattle.std.proofs.lemmas.List.{length-append}
use Rattle.circular_buffer.specs.Buffer.{keep_last}
use Rattle.frame_receiver.proofs.Kept.{copied_from_back, copied_from_both}
use Rattle.frame_receiver.proofs.tail.copy_last.Goals as goal

pub returns-then-from-front : goal.returns-then-from-front
returns-then-from-front c =
    let front = c.as_slices.result.0.now in
    let back = c.as_slices.result.1.now in
    let total = sym (length-append front back) ∙ ap length c.as_slices.ensures in
    copied_from_both front back c.args.out.now c.copy_from_slice.new.self c.copy_from_slice-then-from-front.new.self (c.len.result - length c.args.out.now) (length c.args.out.now)
    (search rules) refl (omega (arith, total, c.len.ensures.len)) c.copy_from_slice.ensures.after c.copy_from_slice-then-from-front.ensures.after
    ∙ ap (keep_last (length c.args.out.now)) c.as_slices.ensures

pub returns-else-from-front : goal.returns-else-from-front
returns-else-from-front c =
    let front = c.as_slices.result.0.now in
    let back = c.as_slices.result.1.now in
    let total = sym (length-append front back) ∙ ap length c.as_slices.ensures in
    copied_from_back front back c.copy_from_slice-else-from-front.new.self (c.len.result - length c.args.out.now) (length c.args.out.now) (search rules) (omega (arith, total, c.len.ensures.len)) c.copy_from_slice-else-from-front.ensures.after
    ∙ ap (keep_last (length c.args.out.now)) c.as_slices.ensures
