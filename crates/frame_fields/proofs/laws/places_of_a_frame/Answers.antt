use Rattle.fixed_complex.specs.Pairs.{zero_pair}
use Rattle.plain_waves.specs.Bodies.{plain_body, sent_body}
use Rattle.frame_fields.proofs.FramePlaces.{in_preamble, in_symbol, length-frame}
use Rattle.frame_fields.proofs.laws.places_of_a_frame.Goals as goal

pub returns-clause-sent_length : goal.returns-clause-sent_length
returns-clause-sent_length c = length-frame sent_body

pub returns-clause-plain_length : goal.returns-clause-plain_length
returns-clause-plain_length c = length-frame plain_body

pub returns-clause-sent_preamble : goal.returns-clause-sent_preamble
returns-clause-sent_preamble c = λ rate seed psdu t inside. in_preamble sent_body rate seed psdu t _ inside

pub returns-clause-plain_preamble : goal.returns-clause-plain_preamble
returns-clause-plain_preamble c = λ rate seed psdu t inside. in_preamble plain_body rate seed psdu t zero_pair inside

pub returns-clause-sent_symbols : goal.returns-clause-sent_symbols
returns-clause-sent_symbols c = λ rate seed psdu n t sent inside. in_symbol sent_body rate seed psdu n t _ sent inside

pub returns-clause-plain_symbols : goal.returns-clause-plain_symbols
returns-clause-plain_symbols c = λ rate seed psdu n t sent inside. in_symbol plain_body rate seed psdu n t zero_pair sent inside
