use Rattle.std.proofs.Common.{refl, ◌≡◌, ◌≢◌, length, inl, inr, sym, arith, get_or-set_other, get_or-set_same}
use Rattle.std.proofs.lemmas.Bool.{cases_lt}
use Rattle.std.proofs.lemmas.List.FromFn.{fill_by_all}
use Rattle.fixed_complex.proofs.TurnLaws.{turn-within}
use Rattle.symbol_turns.specs.Turning.{turned_at, turned_samples}
use Rattle.symbol_turns.proofs.Turned.{turned_before, turned_is}
use Rattle.symbol_turns.proofs.turning.turn_symbols.Goals as goal

pub turned-requires : goal.turned-requires
turned-requires c = rw c.turn.ensures (turn-within _)

pub loop-place-init : goal.loop-place-init
loop-place-init c = record {
  turned = λ k before inside. sym (turned_before c.args.start c.args.step c.args.samples.now k before);
  left = λ k behind. refl;
}

pub loop-place-preserved : goal.loop-place-preserved
loop-place-preserved c = record {
  turned = λ k before inside. elim (cases_lt k c.loop-place.place) [
    | inl earlier ↦ let other : k ≢ c.loop-place.place = omega arith in rw get_or-set_other (c.loop-place.invariant.turned k earlier inside)
    | inr here ↦
        let place = c.loop-place.place in
        let same : k ≡ place = omega arith in
        let made = turned_is c.args.start c.args.step c.args.samples.now place c.turn.result _ c.turned.result c.loop-place.auto.place c.turn.ensures
        (c.loop-place.invariant.left place (omega arith)) c.turned.ensures in
        rw (same, get_or-set_same c.loop-place.samples place c.turned.result _ (omega arith)) made
  ];
  left = λ k behind. let other : k ≢ c.loop-place.place = omega arith in rw get_or-set_other (c.loop-place.invariant.left k (omega arith));
}

pub returns : goal.returns
unfolding turned_samples
returns c =
    fill_by_all (turned_at c.args.start c.args.step c.args.samples.now) c.loop-place.samples (length c.args.samples.now) _ (omega arith)
    (λ k inside. c.loop-place.invariant.turned k (omega arith) inside)
