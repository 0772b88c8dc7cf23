use Rattle.std.proofs.Common.{◌≡◌, ℕ, ◌-◌, ◌<◌, ◌%◌, List, cond, eqb, map, length, get_or, ◌∙◌, w64, arith}
use Rattle.std.specs.Int.{bit_at}
use lib.Lanes.{zip2, mask_l, top}
use Rattle.std.proofs.lemmas.Bool.{eq-eqb, ne_eqb}
use Rattle.std.proofs.lemmas.Nat.Bits.{bit_at_not}
use Rattle.survivor_memory.proofs.ByLanes.{mask_bit}
use Rattle.survivor_memory.proofs.lanes.differing.Goals as goal

-- the bit of a lane in the turned mask of the lanes where two are the same
turned_bit : (a b : List ℕ) (s : ℕ) → length a ≡ 64 → length b ≡ 64 → s < 64
    → bit_at (18446744073709551615 - mask_l (map (top 7) (zip2 (λ x y. cond (eqb x y) 255 0) a b)) % 18446744073709551616) s ≡ 1 - cond (eqb (get_or a s 0) (get_or b s 0)) 1 0
turned_bit a b s la lb h =
    bit_at_not w64 (mask_l (map (top 7) (zip2 (λ x y. cond (eqb x y) 255 0) a b)) % 18446744073709551616) s (omega arith) h
    ∙ rw (mask_bit eqb a b s la lb h)

pub returns-clause-set : goal.returns-clause-set
returns-clause-set c = λ s h other.
    turned_bit c.args.first c.args.second s c.fits-first.0 c.fits-second.0 h
    ∙ rw (ne_eqb (get_or c.args.first s 0) (get_or c.args.second s 0) other)

pub returns-clause-clear : goal.returns-clause-clear
returns-clause-clear c = λ s h same.
    turned_bit c.args.first c.args.second s c.fits-first.0 c.fits-second.0 h
    ∙ rw (eq-eqb (get_or c.args.first s 0) (get_or c.args.second s 0) same)
