-- Captures in which a frame came with echoes (own).
use Rattle.std.specs.Prelude.{List, drop}
use Rattle.fixed_complex.specs.declared.Cx.{Cx}
use Rattle.fixed_complex.specs.declared.Sample.{Sample}
use Rattle.echo_taps.specs.Taps.{IsEcho}
use Rattle.frame_lists.specs.Near.{SentFrame}
use Rattle.frames_in_echoes.specs.Waves.{BeginsNearEchoed}
use Rattle.frames_in_noise.specs.Laws.{IsFrame}
use Rattle.symbols_in_echoes.specs.Laws.{echo_bound_of}

-- a frame that is sent, and the pairs by which it comes again
pub record EchoedFrame : Type 0 where
  pub frame : SentFrame
  pub taps : List Cx

-- a capture has an echoed frame: it may be sent, and from its start on the capture is within half the noise bound of its
-- rate of its echoed waveform
pub record HasEchoed (capture : List Sample) (echoed : EchoedFrame) : Type 0 where
  pub echo : IsEcho echoed.taps
  pub may_be_sent : IsFrame echoed.frame
  pub near : BeginsNearEchoed (echo_bound_of echoed.frame.rate) echoed.taps
      (drop echoed.frame.start capture) echoed.frame
