use Rattle.std.proofs.Common.{◌∷◌, [], List, ap, ◌∙◌, subst, sym, ◌≤◌, length}
use Rattle.noise_script.specs.declared.Item.TheVariants.{Lead, Trail, Uniform}
use Rattle.frame_drills.proofs.Noisy.{is_scripted_by, scripted_few}
use Rattle.frame_drills.proofs.captures.scripted.Goals as goal

pub returns-clause-samples : goal.returns-clause-samples
returns-clause-samples c =
    let lead = ap (λ f. f.start) c.frame.view_is in
    is_scripted_by c.args.frame.now c.args.bound c.args.seed _ _ _
    (c.of_frame.ensures.items ∙ ap (λ n. Lead c.frame.inside.lead ∷ Uniform c.args.bound n ∷ Trail 100 ∷ []) c.from.ensures ∙ ap (λ n. Lead n ∷ Uniform c.args.bound c.args.seed ∷ Trail 100 ∷ []) lead)
    (c.in_ok-samples.ensures.items ∙ c.requires.sent)
    c.in_ok-apply.ensures.after

pub returns-clause-few : goal.returns-clause-few
returns-clause-few c =
    let P : List _ → Type 0 = λ list. length list ≤ 111827 in
    subst P (sym (returns-clause-samples c)) (scripted_few c.args.frame.now c.args.bound c.args.seed c.args.sent.now c.requires.sent c.requires.few c.requires.lead)
