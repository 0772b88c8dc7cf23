use Rattle.std.proofs.Common.{◌∙◌}
use Rattle.command_words.proofs.numbers.read_from.Goals as goal

-- a number of the range has no bad place
pub returns-in-Err-clause-none : goal.returns-in-Err-clause-none
returns-in-Err-clause-none c = λ number range same.
    c.places_of_numbers.ensures.none c.args.least c.args.most c.as_bytes.result.now c.in-Err.field-0
    (number, record { from = range.0; up_to = range.1; is = c.as_bytes.ensures.value ∙ same }) c.in-Err.ensures.bad
