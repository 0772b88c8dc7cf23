-- Samples that begin within the phase bound of a frame with turns are read as it was sent.
use Rattle.std.proofs.Common.{ℕ, zero, suc, ◌+◌, ◌*◌, ◌≤◌, List, length-drop, drop, refl, subst, arith}
use Rattle.fixed_complex.specs.declared.Cx.{Cx}
use Rattle.fixed_complex.specs.declared.Sample.{Sample}
use Rattle.fixed_complex.proofs.PairSizes.{wider}
use Rattle.rate_table.specs.declared.Rate.{Rate}
use Rattle.rate_table.specs.Table.{row_of}
use Rattle.rate_table.proofs.ByRate.{by_rate}
use Rattle.carrier_equaliser.specs.Received.{received}
use Rattle.symbol_builder.specs.Carriers.{symbol_bin}
use Rattle.frame_search.specs.Match.{part}
use Rattle.decided_axis.specs.Channels.{AreCarried}
use Rattle.pilot_turns.specs.Turned.{phase_bound_of}
use Rattle.symbols_turned.specs.Turns.{carrier_error}
use Rattle.symbols_turned.proofs.Decided.{decided_turned}
use Rattle.symbols_turned.proofs.Numbers.{bears}
use Rattle.frame_lists.specs.Near.{SentFrame}
use Rattle.frame_reader.specs.Decisions.{body_of, decisions_by, estimate_from}
use Rattle.exact_decisions.specs.Laws.{sent_header}
use Rattle.exact_decisions.specs.Sent.{AreAsSent, code_of_symbol, rate_of_symbol}
use Rattle.exact_decisions.proofs.Codes.{code_bits, code_long, same_points}
use Rattle.exact_decisions.proofs.Heard.{sent_is_heard}
use Rattle.frame_starts.specs.Starts.{heard}
use Rattle.frames_in_noise.specs.Laws.{heard_of}
use Rattle.frames_in_noise.proofs.Codes.{frame_fit}
use Rattle.frames_turned.specs.Deciding.{phase_decided}
use Rattle.frames_turned.specs.Laws.{TurnedFrameIsRead, TurnedFrameIsThere, bound_of}
use Rattle.frames_turned.specs.Waves.{AreTurns, BeginsNearTurned}
use Rattle.frames_turned.proofs.Parts.{first_carried, second_carried, symbol_carried}

-- SIGNAL withstands turns within the bound of each rate
phase_most : (rate : Rate) → phase_bound_of (row_of rate).modulation ≤ 20
phase_most = by_rate (λ rate. phase_bound_of (row_of rate).modulation ≤ 20) (omega arith) (omega arith) (omega arith) (omega arith) (omega arith) (omega arith) (omega arith) (omega arith)

pub phase_least : (rate : Rate) → 2 ≤ phase_bound_of (row_of rate).modulation
phase_least = by_rate (λ rate. 2 ≤ phase_bound_of (row_of rate).modulation) (omega arith) (omega arith) (omega arith) (omega arith) (omega arith) (omega arith) (omega arith) (omega arith)

bound_of_symbol : (rate : Rate) (bound n : ℕ) → bound ≤ phase_bound_of (row_of rate).modulation → bound ≤ phase_bound_of (row_of (rate_of_symbol rate n)).modulation
bound_of_symbol rate bound zero least = omega (arith, least, phase_most rate)
bound_of_symbol rate bound (suc m) least = least

-- errors may grow
carried_wider : (a b : ℕ) (channel sent : ℕ → Cx) (carriers : List Cx) → a ≤ b → AreCarried 1048576 a channel sent carriers → AreCarried 1048576 b channel sent carriers
carried_wider a b channel sent carriers le carried bin lt = record { near = wider (1048576 * a) (1048576 * b) _ (omega arith) (carried bin lt).near }

as_sent : (bound : ℕ) (turns : ℕ → Cx) (samples : List Sample) (frame : SentFrame) → bound ≤ bound_of frame → AreTurns turns frame → BeginsNearTurned bound turns samples frame → AreAsSent frame.rate frame.seed frame.psdu (decisions_by phase_decided samples)
unfolding phase_decided estimate_from
as_sent bound turns samples frame least are begins n sent =
    let rate = rate_of_symbol frame.rate n in
    let bits = code_of_symbol frame.rate frame.seed frame.psdu n in
    let modulation = (row_of rate).modulation in
    let most : bound ≤ 20 = omega (arith, least, phase_most frame.rate) in
    let b = bears modulation in
    let error : 91 * bound + 70 ≤ carrier_error modulation = b.bound bound (bound_of_symbol frame.rate bound n least) in
    let carries = subst (λ points. AreCarried 1048576 (91 * bound + 70) (λ _. turns n) (symbol_bin points n) (received (body_of samples n))) (same_points frame.rate frame.seed frame.psdu n)
    (symbol_carried bound turns samples frame begins n most are sent (frame_fit frame n sent)) in
    decided_turned rate (turns n) n bits (received (part samples 192 64)) (received (part samples 256 64)) (received (body_of samples n))
    (code_bits frame.rate frame.seed frame.psdu n) (code_long frame.rate frame.seed frame.psdu n sent)
    (record {
      is = are n sent;
      near = carried_wider (91 * bound + 70) (carrier_error modulation) _ _ (received (part samples 192 64)) error (first_carried bound turns samples frame begins most);
      next = carried_wider (91 * bound + 70) (carrier_error modulation) _ _ (received (part samples 256 64)) error (second_carried bound turns samples frame begins most);
      carries = carried_wider (91 * bound + 70) (carrier_error modulation) _ _ (received (body_of samples n)) error carries;
    })

pub turned_frame_is_read : TurnedFrameIsRead
turned_frame_is_read bound turns samples frame is least are begins =
    sent_is_heard frame.rate frame.seed frame.psdu (decisions_by phase_decided samples) is.seed is.long is.octets (as_sent bound turns samples frame least are begins)

-- ---- so the frame at its start is the one that was sent
pub turned_frame_is_there : TurnedFrameIsThere
turned_frame_is_there bound turns capture frame is least are begins =
    let read = turned_frame_is_read bound turns (drop frame.start capture) frame is least are begins in
    let long = length-drop frame.start capture in
    heard (sent_header frame.rate frame.psdu) (omega (arith, begins.whole, long), read.0) (heard_of frame) refl
    (record { whole = omega (arith, begins.whole, long); rate = refl; octets = refl; field = read.1 }) refl
