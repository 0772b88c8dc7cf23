use Rattle.std.proofs.Common.{◌≡◌, ◌++◌, ◌∙◌, ap}
use Rattle.rate_table.specs.declared.Rate.TheVariants.{R6}
use Rattle.symbol_builder.specs.Carriers.{sent_symbol}
use Rattle.plain_waves.specs.Bodies.{sent_body}
use Rattle.training_fields.specs.Training.{preamble_of}
use Rattle.symbol_builder.specs.Points.{points_of_code}
use Rattle.frame_fields.specs.Frames.{signal_code}
use Rattle.frame_fields.proofs.frames.frame_head.Goals as goal

pub returns-clause-samples : goal.returns-clause-samples
returns-clause-samples c =
    let points : c.points_of_code-points.result ≡ points_of_code R6 (signal_code c.args.rate c.args.octets) =
    c.points_of_code-points.ensures.points ∙ ap (points_of_code R6) c.signal_code.ensures.code in
    let front : c.extend_from_slice.new.self.items ≡ preamble_of sent_body =
    c.in_ok-extend_from_slice.ensures.items ∙ ap (λ items. items ++ c.preamble.result) c.in_ok-samples.ensures.items ∙ c.preamble.ensures.samples in
    c.in_ok-push_symbol.ensures.appended ∙ ap (λ items. items ++ sent_symbol c.points_of_code-points.result 0) front
    ∙ ap (λ ps. preamble_of sent_body ++ sent_symbol ps 0) points
