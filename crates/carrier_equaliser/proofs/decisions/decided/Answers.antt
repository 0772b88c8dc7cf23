use Rattle.std.proofs.Common.{SFits, rules, w64}
use Rattle.std.proofs.lemmas.Int.{to_z-of_z}
use Rattle.carrier_equaliser.proofs.decisions.decided.Goals as goal

pub returns-clause-value : goal.returns-clause-value
returns-clause-value c = λ rate is.
    let fits : SFits w64 c.size_squared.result = search rules in
    let size = to_z-of_z w64 c.size_squared.result fits in
    rw is (rw (size, c.turned_back.ensures.value, c.size_squared.ensures.value) at c.decide.ensures.decided)
