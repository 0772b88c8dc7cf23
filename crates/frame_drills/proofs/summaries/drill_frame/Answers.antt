use Rattle.std.proofs.Common.{◌≡◌, ℕ, ◌+◌, ◌-◌, true, sym, ap, ◌∙◌}
use Rattle.std.proofs.lemmas.Bool.{false≢true}
use Rattle.frames_in_noise.specs.Laws.{noise_bound_of}
use Rattle.frame_drills.specs.declared.summaries.Summary.{Summary}
use Rattle.frame_drills.proofs.Noisy.{quiet_back}
use Rattle.frame_drills.proofs.summaries.drill_frame.Goals as goal
use Rattle.frame_drills.proofs.summaries.drill_frame.Goals.{else-loud, else-quiet, then-loud, then-quiet}

heard_of : Summary → ℕ
heard_of summary = summary.heard

pub returns-clause-heard : goal.returns-clause-heard
unfolding heard_of
returns-clause-heard c =
    let rate : c.noise_bound.result ≡ noise_bound_of c.in_ok-frame.frame = c.noise_bound.ensures ∙ ap noise_bound_of c.frame.view_is in
    let back : c.in_ok-quiet.quiet.is_back ≡ true = c.in_ok-quiet.ensures.back.1 (quiet_back c.args.number c.in_ok-frame.frame _ c.in_ok-frame.ensures.drawn (ap (λ n. n - 1) rate)) in
    let first : c.if-quiet.summary.heard ≡ c.args.summary.now.heard + 1 =
    elim c.if-quiet.branch [ then-quiet w ↦ ap heard_of w.summary-is | else-quiet w ↦ absurd (false≢true (sym w.if-quiet.false ∙ back)) ] in
    elim c.if-loud.branch [ then-loud w ↦ ap heard_of w.summary-is ∙ first | else-loud w ↦ ap heard_of w.summary-is ∙ first ]
