use Rattle.std.proofs.Common.{refl}
use Rattle.command_words.specs.Asking.{for_script}
use Rattle.command_words.proofs.Asked.{of_fault}
use Rattle.command_words.proofs.asking.read_noise.Goals as goal

pub returns-in-Err-BadScript-clause-refused : goal.returns-in-Err-BadScript-clause-refused
returns-in-Err-BadScript-clause-refused c =
    let fault = of_fault c.in-Err-BadScript.field-0 in
    let bad = rw fault.1 at c.in-Err-BadScript.ensures.bad in
    rw fault.1 (for_script c.args.text.now refl fault.0 bad refl)
