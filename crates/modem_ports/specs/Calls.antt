-- What one call of a port does (own).
use Rattle.std.specs.Prelude.{ℕ, ◌<◌, ◌≤◌, ◌≡◌, List, length, take, Option, Result, Ok, IfOk, OnErr}
use Rattle.modem_ports.specs.declared.Failed.{Failed}
use Rattle.modem_ports.specs.Counts.{Rose, count_end}
use Rattle.modem_ports.specs.Told.{Gives, IsAtEnd, Takes}

-- one call of a source: how many bytes were asked for at most, what it tells of the bytes left before
-- and after, the counts of its faults before and after, the buffer afterwards, and the answer
pub record ReadStep (asked : ℕ) (before after : Option (List ℕ)) (faults faults' : ℕ) (buf : List ℕ)
    (answer : Result ℕ Failed) : Type 0 where
  pub within : IfOk answer (λ n. n ≤ asked)
  pub given : IfOk answer (λ n. Gives before (take n buf) after)
  pub end : answer ≡ Ok 0 → IsAtEnd before
  pub failed : OnErr answer (Rose faults faults')
  pub kept : OnErr answer (after ≡ before)
  pub counted : faults ≤ faults'
  pub stands : faults ≡ count_end → faults' ≡ count_end

-- one call of a sink: the piece that it was handed, what it tells of the bytes taken before and
-- after, the counts of its faults before and after, and the answer
pub record WriteStep (piece : List ℕ) (before after : Option (List ℕ)) (faults faults' : ℕ)
    (answer : Result ℕ Failed) : Type 0 where
  pub some : IfOk answer (λ n. 0 < n)
  pub within : IfOk answer (λ n. n ≤ length piece)
  pub took : IfOk answer (λ n. Takes before (take n piece) after)
  pub failed : OnErr answer (Rose faults faults')
  pub kept : OnErr answer (after ≡ before)
  pub counted : faults ≤ faults'
  pub stands : faults ≡ count_end → faults' ≡ count_end
