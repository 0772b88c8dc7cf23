use Rattle.std.proofs.Common.{◌≡◌, ◌⊎◌, inl, ◌+◌, ◌-◌, ◌*◌, ◌/◌, ◌<◌, [], ◌∷◌, ◌++◌, length, take, drop, set, refl, ap, ◌∙◌, arith, rules, append-nil}
use Rattle.std.proofs.lemmas.Grind.{common_steps}
use Rattle.std.proofs.lemmas.List.{take_more_set}
use Rattle.std.proofs.lemmas.List.Elements.{All-cons, All-nil}
use Rattle.fixed_complex.specs.Samples.{AreSamples, IsSample}
use Rattle.capture_files.specs.Captures.{bytes_of_samples}
use Rattle.capture_files.proofs.Fed.{cut_twice, fed, fed_samples, few_held, held_where_none, nothing_begun}
use Rattle.capture_files.proofs.piecer.Piecer.feed_all.Goals as goal
use Rattle.capture_files.proofs.piecer.Piecer.feed_all.Goals.{in-Some, in_default}

pub returns-clause-bytes : goal.returns-clause-bytes
returns-clause-bytes c =
    let bytes = c.args.bytes.now in
    let begun = c.min-begun.result in
    let whole = (length bytes - begun) / 4 in
    let end = begun + 4 * whole in
    let count = c.match-feed_some.count in
    let first : bytes_of_samples (take count c.match-feed_some.out) ++ c.feed_some.new.self ≡ c.args.self.now ++ take begun bytes = elim c.match-feed_some.branch [
      | in-Some w ↦
          let one : take 1 (set c.args.out.now 0 w.in-Some.sample) ≡ w.in-Some.sample ∷ [] = take_more_set c.args.out.now 0 w.in-Some.sample (search rules) in
          rw (w.count-is, w.out-is, one, w.in-Some.ensures.emptied) (append-nil _ ∙ append-nil _ ∙ w.in-Some.ensures.bytes)
      | in_default w ↦ rw (w.count-is) w.in_default.ensures.held
    ] in
    let none : (c.feed_some.new.self ≡ []) ⊎ (take (end - begun) (drop begun bytes) ≡ []) = elim c.match-feed_some.branch [
      | in-Some w ↦ inl w.in-Some.ensures.emptied
      | in_default w ↦ nothing_begun c.args.self.now bytes c.feed_some.new.self c.wanted.result begun c.wanted.ensures.begun c.wanted.ensures.none (search rules) w.in_default.ensures.held (w.in_default.ensures.none.0 refl)
    ] in
    let few : length c.feed_some.new.self + length (take (length bytes - end) (drop end bytes)) < 4 = elim c.match-feed_some.branch [
      | in-Some w ↦ search rules
      | in_default w ↦
          let rest : length (take (length bytes - end) (drop end bytes)) ≡ length bytes - end = grind (arith, common_steps) in
          rw rest (few_held c.args.self.now bytes c.feed_some.new.self c.wanted.result begun c.wanted.ensures.begun c.wanted.ensures.none (search rules) w.in_default.ensures.held (w.in_default.ensures.none.0 refl))
    ] in
    fed count whole _ c.match-feed_some.out c.put_whole.new.out c.args.self.now (take begun bytes) (take (end - begun) (drop begun bytes)) (take (length bytes - end) (drop end bytes))
    c.feed_some.new.self c.feed_some-behind.new.self (search rules) (search rules) first c.put_whole.ensures.bytes none (held_where_none c.feed_some-behind.result (c.feed_some-behind.ensures.none.1 few) c.feed_some-behind.ensures.held)
    ∙ ap (λ l. c.args.self.now ++ l) (cut_twice bytes begun end (search rules) (search rules))

pub returns-clause-samples : goal.returns-clause-samples
returns-clause-samples c =
    let count = c.match-feed_some.count in
    let first : AreSamples (take count c.match-feed_some.out) = elim c.match-feed_some.branch [
      | in-Some w ↦
          let one : take 1 (set c.args.out.now 0 w.in-Some.sample) ≡ w.in-Some.sample ∷ [] = take_more_set c.args.out.now 0 w.in-Some.sample (search rules) in
          rw (w.count-is, w.out-is, one) (All-cons IsSample w.in-Some.sample [] w.in-Some.ensures.sample (All-nil IsSample))
      | in_default w ↦ rw w.count-is (All-nil IsSample)
    ] in
    fed_samples c.match-feed_some.count ((length c.args.bytes.now - c.min-begun.result) / 4) _ c.match-feed_some.out c.put_whole.new.out (search rules) (search rules) first c.put_whole.ensures.samples
