-- Decisions by the pilots (own).
use Rattle.interleave_two.specs.Place.{deinterleaved}
use Rattle.carrier_equaliser.specs.Received.{received}
use Rattle.pilot_turns.specs.Pilots.{turn_by_pilots}
use Rattle.pilot_turns.specs.Turned.{interleaved_turned}
use Rattle.frame_reader.specs.Decisions.{Deciding}

-- the decisions of a symbol's body, turned back by its pilots, in the order of the code
unfoldable pub phase_decided : Deciding
phase_decided rate n estimate body =
    let symbol = received body in
    deinterleaved rate (interleaved_turned rate (turn_by_pilots estimate symbol n) estimate symbol)
