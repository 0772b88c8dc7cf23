-- What the law of exact decisions states (own).
use Rattle.std.specs.Prelude.{ℕ, List, length, Ok}
use Rattle.bit_lists.specs.Bits.{AreOctets}
use Rattle.ofdm_scrambler.specs.Sequence.{IsSeed}
use Rattle.rate_table.specs.declared.Rate.{Rate}
use Rattle.rate_table.specs.Symbols.{IsLength}
use Rattle.signal_field.specs.declared.Header.{Header}
use Rattle.frame_reader.specs.Frames.{HasField, SaysHeader}
use Rattle.exact_decisions.specs.Sent.{AreAsSent}

-- the header of a frame that is sent: its rate, the number of its octets, and the reserved bit 0
abbrev pub sent_header : Rate → List ℕ → Header
sent_header rate psdu = record { rate = rate; length = length psdu; reserved = 0 }

-- decisions that are as they were sent say the header that was sent, and its field is that of the seed and the PSDU
abbrev pub SentIsHeard : Type 0
SentIsHeard =
    (rate : Rate) (seed : ℕ) (psdu : List ℕ) (decisions : Rate → ℕ → List ℕ) → IsSeed seed
    → IsLength (length psdu) → AreOctets psdu → AreAsSent rate seed psdu decisions
    → SaysHeader decisions (Ok (sent_header rate psdu))
    × HasField decisions (sent_header rate psdu) seed psdu
