-- Kept places, walked step by step.
use Rattle.std.proofs.Common.{◌≡◌, ℕ, ◌+◌, ◌*◌, ◌/◌, ◌%◌, ◌<◌, ◌≤◌, Bool, true, false, cond, refl, sym, ap, ◌∙◌, arith}
use Rattle.std.proofs.Math.Nat.{div-add-mod'}
use mir.Val.{bool_byte}
use Rattle.rate_table.specs.declared.CodeRate.{CodeRate}
use Rattle.rate_table.specs.declared.CodeRate.TheVariants.{Half, TwoThirds, ThreeQuarters}
use Rattle.puncture_map.specs.Kept.{is_kept, kept_count, period_of, rank}
use Rattle.puncture_map.proofs.Ranks.{kept_count-rises, rank-below, rank-more}

-- the first step begins a period
pub at_start : (rate : CodeRate) → (0 % period_of rate ≡ 0) × (0 < period_of rate)
at_start Half = (refl, omega arith)
at_start TwoThirds = (refl, omega arith)
at_start ThreeQuarters = (refl, omega arith)

-- whole blocks of steps: none, one more, and those of a count of steps with the steps behind them
pub record IsWalked (block count n phase : ℕ) : Type 0 where
  pub none : 0 * block ≡ 0
  pub some : 1 ≤ block
  pub few : block ≤ 3
  pub more : (n + 1) * block ≡ n * block + block
  pub begins : n * block % block ≡ 0
  pub within : n < count / block → n * block + block ≤ count
  pub all : count ≡ count / block * block + count % block
  pub behind : phase < block → (n * block + phase) % block ≡ phase
  pub rest : count % block < block
  pub zero : n ≡ 0 → n * block ≡ 0

-- a period is such a block
pub walked : (rate : CodeRate) (count n phase : ℕ) → IsWalked (period_of rate) count n phase
walked Half count n phase = record {
  none = refl;
  some = omega arith;
  few = omega arith;
  more = omega arith;
  begins = omega arith;
  within = λ h. omega arith;
  all = omega arith;
  behind = λ h. omega arith;
  rest = omega arith;
  zero = λ h. omega arith;
}
walked TwoThirds count n phase = record {
  none = refl;
  some = omega arith;
  few = omega arith;
  more = omega arith;
  begins = omega arith;
  within = λ h. omega arith;
  all = omega arith;
  behind = λ h. omega arith;
  rest = omega arith;
  zero = λ h. omega arith;
}
walked ThreeQuarters count n phase = record {
  none = refl;
  some = omega arith;
  few = omega arith;
  more = omega arith;
  begins = omega arith;
  within = λ h. omega arith;
  all = omega arith;
  behind = λ h. omega arith;
  rest = omega arith;
  zero = λ h. omega arith;
}

-- the steps of the whole blocks
pub begun : (block count n p : ℕ) → n ≡ count / p → p ≡ block → n * block ≡ count / block * block
begun block count n p done is = ap (λ k. k * block) (done ∙ ap (λ q. count / q) is)

-- and all steps with those behind them
pub all_fed : (block count phase p : ℕ) → phase ≡ count % p → p ≡ block → count / block * block + phase ≡ count
all_fed block count phase p end is = rw (end, is) (div-add-mod' count block)

-- no steps have no kept places
pub none_kept : (rate : CodeRate) (n : ℕ) → n ≡ 0 → 0 ≡ kept_count rate n
none_kept rate n none = rw none refl

-- a test as a number
byte_is : (b : Bool) → bool_byte b ≡ cond b 1 0
byte_is true = refl
byte_is false = refl

pub byte_le : (b : Bool) → bool_byte b ≤ 1
byte_le true = omega arith
byte_le false = omega arith

-- the rank of the next place, where a kept place counts
pub rank-counted : (rate : CodeRate) (place more : ℕ) (kept : Bool) → more ≡ bool_byte kept → kept ≡ is_kept rate place → rank rate (place + 1) ≡ rank rate place + more
rank-counted rate place more kept counted is =
    let same : more ≡ cond (is_kept rate place) 1 0 = counted ∙ ap bool_byte is ∙ byte_is (is_kept rate place) in
    rw same (rank-more rate place)

-- among as many bits as so many steps keep, a kept place of an earlier step has one
pub rank-within : (rate : CodeRate) (place step count long : ℕ) (kept : Bool) → place < 2 * (step + 1) → step < count → kept_count rate count ≤ long → kept ≡ is_kept rate place → kept ≡ true → rank rate place < long
rank-within rate place step count long kept within below enough is holds =
    omega (arith, rank-below rate place (step + 1) within (sym is ∙ holds), kept_count-rises rate (step + 1) count (omega arith))
