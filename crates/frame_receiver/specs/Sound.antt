-- What holds of a receiver's parts, whatever samples came (own).
use Rattle.std.specs.Prelude.{◌≡◌, ℕ, ◌+◌, ◌*◌, ◌<◌, ◌≤◌, ◌^◌, length, Option, Some, None}
use Rattle.rate_table.specs.Symbols.{IsLength}
use Rattle.survivor_memory.specs.Survivors.{MemoryView}
use Rattle.viterbi_lanes.specs.Decisions.{carried_steps}
use Rattle.frame_reader.specs.Frames.{symbols_of}
use Rattle.frame_receiver.specs.declared.receiver.At.{At}
use Rattle.frame_receiver.specs.Tails.{TailView}

-- within a frame: some of its symbols aren't whole, and the trellis holds the steps of those that are. What was spent is
-- bounded by the samples that came, so that each sample pays for 25 steps, a quiet one keeps 21 for the next edge, and
-- one within a symbol 3 for its end
pub record IsPacedAt (tail : TailView) (rows spent : ℕ) (at : At) : Type 0 where
  pub octets : IsLength at.header.length
  pub more : at.symbols < symbols_of at.header
  pub whole : at.place + 400 + 80 * at.symbols ≤ tail.count
  pub not_whole : tail.count < at.place + 480 + 80 * at.symbols
  pub held : rows ≡ carried_steps at.header.rate at.header.length at.symbols
  pub paid : spent + 21 * tail.quiet + 3 * tail.count
      ≤ 25 * tail.count + 336 + 3 * (at.place + 400 + 80 * at.symbols)

-- while it searches, the trellis holds nothing
abbrev pub IsPaced : TailView → ℕ → ℕ → Option At → Type 0
IsPaced tail rows spent None = spent + 21 * tail.quiet ≤ 25 * tail.count + 336
IsPaced tail rows spent (Some at) = IsPacedAt tail rows spent at

-- the room of the parts, and how far they got
pub record IsSound (tail : TailView) (from : ℕ) (at : Option At) (trellis : MemoryView) (field octets heard spent : ℕ)
    : Type 0 where
  pub count : tail.count ≤ 2 ^ 24
  pub within : from ≤ tail.count
  pub room : trellis.room ≡ 32782
  pub bits : field ≡ 32782
  pub places : octets ≡ 4095
  pub last : heard ≤ 4095
  pub paced : IsPaced tail (length trellis.rows) spent at
