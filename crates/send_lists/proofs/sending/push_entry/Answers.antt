use Rattle.std.proofs.Common.{◌++◌, ℕ, List, ap, sym, ◌∙◌, append_assoc}
use Rattle.fixed_complex.specs.declared.Sample.{Sample}
use Rattle.frame_fields.specs.Frames.{sent_frame}
use Rattle.frame_lists.specs.Items.{silence}
use Rattle.list_texts.specs.declared.Entry.{Entry}
use Rattle.send_lists.proofs.Samples.{one_entry}
use Rattle.send_lists.proofs.sending.push_entry.Goals as goal

pub returns : goal.returns
returns c =
    let entry : Entry = c.args.entry.now in
    let before : List Sample = c.args.samples.now.items in
    let gap : List Sample = silence entry.gap in
    let frame : List Sample = sent_frame entry.rate entry.seed entry.psdu in
    let sent = c.deref.ensures.value ∙ c.in_ok-frame.ensures.samples ∙ ap (λ (p : List ℕ). sent_frame entry.rate entry.seed p) c.as_slice.ensures in
    c.in_ok-extend_from_slice.ensures.items ∙ ap (λ (s : List Sample). c.push_silence.new.samples.items ++ s) sent ∙ ap (λ (s : List Sample). s ++ frame) c.in_ok-push_silence.ensures
    ∙ append_assoc before gap frame ∙ ap (λ (s : List Sample). before ++ s) (sym (one_entry entry))
