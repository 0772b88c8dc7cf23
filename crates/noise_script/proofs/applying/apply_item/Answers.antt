use Rattle.std.proofs.Common.{◌≡◌, ◌-◌, ℕ, List, ◌++◌, length, take, drop, vec_len, ℤ, to_z, of_z, sym, ap, subst, ◌∙◌, arith}
use Rattle.std.proofs.lemmas.Int.{to_z-of_z}
use Rattle.std.proofs.lemmas.List.{take_at}
use Rattle.fixed_complex.specs.declared.Sample.{Sample}
use Rattle.lane_kernels.specs.Kernels.{held_sums}
use Rattle.noise_script.specs.Effects.{after_item, silence, spiked}
use Rattle.noise_script.specs.Items.{IsInRange}
use Rattle.noise_script.specs.Noise.{generator_of, noise_samples}
use Rattle.std.specs.Int.{w16}
use Rattle.noise_script.proofs.Effects.{after_cut, after_lead, after_spike, after_trail, after_uniform, rotated}
use Rattle.noise_script.proofs.applying.apply_item.Goals as goal

pub returns-in-Lead-clause-after : goal.returns-in-Lead-clause-after
returns-in-Lead-clause-after c =
    let count : ℕ = c.in-Lead.count in
    let samples : List Sample = c.args.samples.now.items in
    let longer : List Sample = c.append_silence.new.samples.items in
    let front : vec_len c.append_silence.new.samples - count ≡ length samples = omega (arith, c.append_silence.ensures.len) in
    c.rotate_right.ensures.items ∙ ap (λ n. drop n longer ++ take n longer) front ∙ ap (λ x. drop (length samples) x ++ take (length samples) x) c.append_silence.ensures.items
    ∙ rotated samples (silence count) ∙ sym (after_lead count samples) ∙ ap (λ item. after_item item samples) (sym c.in-Lead.is)

pub returns-in-Trail-clause-after : goal.returns-in-Trail-clause-after
returns-in-Trail-clause-after c =
    c.append_silence-in-Trail.ensures.items ∙ sym (after_trail c.in-Trail.count c.args.samples.now.items) ∙ ap (λ item. after_item item c.args.samples.now.items) (sym c.in-Trail.is)

written_back : (n : ℕ) (new rest : List Sample) → n ≡ length new → take n (new ++ rest) ≡ new
written_back n new rest e = take_at new rest n (sym e)

pub returns-in-Uniform-clause-after : goal.returns-in-Uniform-clause-after
returns-in-Uniform-clause-after c =
    let samples : List Sample = c.args.samples.now.items in
    written_back c.args.samples.now.len c.add_noise.new.samples (drop (length c.add_noise.new.samples) samples) (omega arith)
    ∙ c.add_noise.ensures
    ∙ ap (λ (x : List Sample). held_sums x (noise_samples c.in-Uniform.bound (length x) (generator_of c.in-Uniform.seed))) c.as_mut_slice.ensures.value
    ∙ sym (after_uniform c.in-Uniform.bound c.in-Uniform.seed samples)
    ∙ ap (λ item. after_item item samples) (sym c.in-Uniform.is)

pub returns-in-Spike-clause-after : goal.returns-in-Spike-clause-after
returns-in-Spike-clause-after c =
    let samples : List Sample = c.args.samples.now.items in
    let at : ℕ = c.in-Spike.at in
    let i : ℤ = c.in-Spike.i in
    let q : ℤ = c.in-Spike.q in
    let range = subst IsInRange c.in-Spike.is c.requires.in_range in
    let spike : ℤ → ℤ → Sample = λ x y. record { i = x; q = y } in
    written_back c.args.samples.now.len c.add_spike.new.samples (drop (length c.add_spike.new.samples) samples) (omega arith)
    ∙ c.add_spike.ensures
    ∙ ap (λ (x : ℤ). spiked at (spike x (to_z w16 (of_z w16 q))) c.as_mut_slice-in-Spike.result.now) (to_z-of_z w16 i range.1)
    ∙ ap (λ (x : ℤ). spiked at (spike i x) c.as_mut_slice-in-Spike.result.now) (to_z-of_z w16 q range.2)
    ∙ ap (λ (x : List Sample). spiked at (spike i q) x) c.as_mut_slice-in-Spike.ensures.value
    ∙ sym (after_spike at i q samples)
    ∙ ap (λ item. after_item item samples) (sym c.in-Spike.is)

pub returns-in-Cut-clause-after : goal.returns-in-Cut-clause-after
returns-in-Cut-clause-after c =
    c.cut.ensures.items ∙ sym (after_cut c.in-Cut.at c.in-Cut.count c.args.samples.now.items) ∙ ap (λ item. after_item item c.args.samples.now.items) (sym c.in-Cut.is)
