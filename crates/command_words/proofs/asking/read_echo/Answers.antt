use Rattle.std.proofs.Common.{refl}
use Rattle.command_words.specs.Asking.{for_taps}
use Rattle.command_words.proofs.Asked.{of_tap_fault}
use Rattle.command_words.proofs.asking.read_echo.Goals as goal

pub returns-in-Err-BadTaps-clause-refused : goal.returns-in-Err-BadTaps-clause-refused
returns-in-Err-BadTaps-clause-refused c =
    let fault = of_tap_fault c.in-Err-BadTaps.field-0 in
    let bad = rw fault.1 at c.in-Err-BadTaps.ensures.bad in
    rw fault.1 (for_taps c.args.text.now refl fault.0 bad refl)
