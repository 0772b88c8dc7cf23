use Rattle.list_texts.proofs.Sames.{one_list}
use Rattle.list_texts.proofs.laws.one_list_a_text.Goals as goal

pub returns : goal.returns
returns c = λ a b text p q. one_list a b text p q
