use Rattle.command_answers.specs.Inputs.{reads}
use Rattle.command_words.specs.Asking.{command_of}
use Rattle.command_answers.proofs.Inputs.{few_samples}
use Rattle.command_answers.proofs.answers.answer_of.Goals as goal

pub answer_of_capture-requires-clause-most : goal.answer_of_capture-requires-clause-most
answer_of_capture-requires-clause-most c =
    few_samples (reads (command_of c.args.request)) c.in-Samples.samples (rw c.in-Samples.is at c.requires.form) (rw c.in-Samples.is at c.requires.accepted)
