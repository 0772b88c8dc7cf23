use Rattle.std.proofs.Common.{◌∷◌, [], refl}
use Rattle.frame_receiver.specs.Receiving.{frame_of}
use Rattle.capture_hearing.proofs.MoreSamples.{line_fits, lines_grow, lines_stay}
use Rattle.capture_hearing.proofs.hearing.hear_sample.Goals as goal

pub put_frame-requires : goal.put_frame-requires
put_frame-requires c =
    line_fits c.lines_fit.ensures.next c.args.receiver.now c.push.new.self c.args.lines.now c.requires.stood.0 c.args.sample (frame_of c.in-Some.found c.push.new.self.psdu) _ c.requires.room
    (c.in-Some.ensures.stands c.requires.stood.0) (rw c.psdu.ensures.value refl) c.requires.stood.1

pub returns-in_default-clause-heard : goal.returns-in_default-clause-heard
returns-in_default-clause-heard c = λ before has.
    lines_stay c.args.receiver.now c.push.new.self c.args.lines.now before (c.args.sample ∷ []) (c.in_default.ensures.stands before) has

pub returns-clause-heard : goal.returns-clause-heard
returns-clause-heard c = λ before has.
    lines_grow c.args.receiver.now c.push.new.self c.args.lines.now c.put_frame.new.self before c.args.sample (frame_of c.in-Some.found c.push.new.self.psdu)
    (c.in-Some.ensures.stands before) (rw c.psdu.ensures.value at c.put_frame.ensures.line) has
