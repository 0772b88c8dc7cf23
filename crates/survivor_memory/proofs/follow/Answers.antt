use Rattle.std.proofs.Common.{◌≡◌, ℕ, ◌+◌, ◌-◌, ◌*◌, ◌/◌, ◌%◌, ◌<◌, ◌++◌, List, [], ◌∷◌, length, get_or, drop, set, zero, suc, ◌∙◌, add-one, arith, append_assoc}
use Rattle.std.specs.Int.{bit_at}
use Rattle.std.proofs.lemmas.List.{drop-set}
use Rattle.std.proofs.lemmas.List.Elements.{All-append, All-cons, All-nil}
use Rattle.bit_lists.specs.Bits.{AreBits, IsBit}
use Rattle.survivor_memory.specs.Survivors.{followed}
use Rattle.survivor_memory.proofs.follow.Goals as goal

-- one step back
step_back : (rows out : List ℕ) (place state : ℕ) → 0 < place → place - 1 < length out
    → followed rows (place - 1) (state / 2 + 32 * bit_at (get_or rows (place - 1) 0) state) ++ drop (place - 1) (set out (place - 1) (state % 2))
    ≡ followed rows place state ++ drop place out
unfolding followed
step_back rows out zero state some within = absurd (omega arith)
step_back rows out (suc n) state some within =
    let before : suc n - 1 ≡ n = omega arith in
    rw (before, append_assoc, drop-set out n (state % 2) (omega arith), add-one)

pub loop-place-preserved : goal.loop-place-preserved
loop-place-preserved c = record {
  state = omega arith;
  written = step_back c.args.rows.now c.loop-place.out c.loop-place.place c.loop-place.state c.loop-place-test.true (omega arith) ∙ c.loop-place.invariant.written;
}

pub returns-clause-written : goal.returns-clause-written
unfolding followed
returns-clause-written c = let done : c.loop-place.place ≡ 0 = omega arith in rw done at c.loop-place.invariant.written

-- each input that rows give is a state's lowest bit
followed_bits : (rows : List ℕ) (count state : ℕ) → AreBits (followed rows count state)
unfolding followed
followed_bits rows zero state = All-nil IsBit
followed_bits rows (suc count) state =
    All-append IsBit _ (state % 2 ∷ []) (followed_bits rows count _) (All-cons IsBit (state % 2) [] (omega arith) (All-nil IsBit))

pub returns-clause-bits : goal.returns-clause-bits
returns-clause-bits c = rw (returns-clause-written c) (followed_bits c.args.rows.now (length c.args.rows.now) 0)
