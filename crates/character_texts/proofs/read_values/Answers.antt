use Rattle.std.proofs.Common.{◌≡◌, subst}
use Rattle.character_texts.specs.Texts.{IsBadPlaceBy}
use Rattle.character_texts.proofs.Places.{bad_place}
use Rattle.character_texts.proofs.read_values.Goals as goal

pub returns-in-None-clause-bad : goal.returns-in-None-clause-bad
returns-in-None-clause-bad g c = λ at same.
    let place : c.loop-at.at ≡ at = cc in
    subst (IsBadPlaceBy g.A.Alphabet.is_character c.args.text.now) place
    (bad_place g.A.Alphabet.is_value g.A.Alphabet.is_character g.A.Alphabet.written g.met.A.Alphabet.are_characters c.args.text.now c.without_newline-characters.result.now c.loop-at.values.items c.loop-at.at c.without_newline-characters.ensures.front c.without_newline-characters.ensures.stripped c.loop-at-test.true c.loop-at.invariant.so_far c.loop-at.invariant.values c.in-None.ensures.none)
