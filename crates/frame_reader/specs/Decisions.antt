-- The plain decisions of a frame that begins with the first of some samples (own; the places of its parts are those of
-- IEEE Std 802.11-2012, 18.3.2.1).
use Rattle.std.specs.Prelude.{ℕ, ◌+◌, ◌*◌, List}
use Rattle.fixed_complex.specs.declared.Cx.{Cx}
use Rattle.fixed_complex.specs.declared.Sample.{Sample}
use Rattle.rate_table.specs.declared.Rate.{Rate}
use Rattle.interleave_two.specs.Place.{deinterleaved}
use Rattle.frame_search.specs.Match.{part}
use Rattle.carrier_equaliser.specs.Received.{received}
use Rattle.carrier_equaliser.specs.Estimates.{estimate_of}
use Rattle.carrier_equaliser.specs.Decided.{interleaved_decisions}

-- the estimate of the channel: that of both bodies of the long training field, which stand at 192 and 256
unfoldable pub estimate_from : List Sample → List Cx
estimate_from samples = estimate_of (received (part samples 192 64)) (received (part samples 256 64))

-- the decisions of a symbol's body over an estimate, in the order of the code
unfoldable pub decisions_of : Rate → List Cx → List Sample → List ℕ
decisions_of rate estimate body = deinterleaved rate (interleaved_decisions rate estimate (received body))

-- the body of symbol n: symbols of 80 samples stand behind the 320 of the preamble, and in each the body behind 16
abbrev pub body_of : List Sample → ℕ → List Sample
body_of samples n = part samples (336 + 80 * n) 64

-- how a symbol is decided: the decisions at a rate, by its number, over an estimate, of its body
abbrev pub Deciding : Type 0
Deciding = Rate → ℕ → List Cx → List Sample → List ℕ

-- the decisions of symbol n over the estimate from the same samples, by a way of deciding: symbol 0 is SIGNAL, symbol
-- m + 1 is DATA symbol m
abbrev pub decisions_by : Deciding → List Sample → Rate → ℕ → List ℕ
decisions_by decided samples rate n = decided rate n (estimate_from samples) (body_of samples n)

-- the plain ones: over the estimate alone
unfoldable pub plain_decisions : List Sample → Rate → ℕ → List ℕ
plain_decisions samples rate n = decisions_of rate (estimate_from samples) (body_of samples n)
