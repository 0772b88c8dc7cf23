-- What the ports over memory are (own).
use Rattle.std.specs.Prelude.{ℕ, List}

-- the bytes that are left, the most that one call gives, the numbers of the calls that fail, the
-- calls so far, and the count of faults
pub record SourceState : Type 0 where
  pub left : List ℕ
  pub most : ℕ
  pub failing : List ℕ
  pub calls : ℕ
  pub faults : ℕ

-- the bytes that were taken, how many there is room for in all, the most that one call takes, the
-- numbers of the calls that fail, the calls so far, and the count of faults
pub record SinkState : Type 0 where
  pub taken : List ℕ
  pub room : ℕ
  pub most : ℕ
  pub failing : List ℕ
  pub calls : ℕ
  pub faults : ℕ
