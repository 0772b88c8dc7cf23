use Rattle.std.proofs.Common.{◌≡◌, get_or, refl, arith}
use Rattle.survivor_memory.proofs.Halving.{IsLeastOf, least_of_both}
use Rattle.survivor_memory.proofs.lanes.least_of.Goals as goal

-- the first lane, in the end, is the least of all
least_of_all : (c : goal.After-row_known-1) → IsLeastOf 64 c.args.entries (get_or c.lesser.result 0 0)
least_of_all c =
    let least = get_or c.lesser.result 0 0 in
    let one : IsLeastOf 1 c.lesser.result least = record {
      below = λ s h. let first : s ≡ 0 = omega arith in rw first (omega arith);
      found = (0, omega arith, refl);
    } in
    least_of_both 32 c.args.entries c.lesser-of_two.result least (omega arith) c.fits-entries.0 c.lesser-of_two.ensures
    (least_of_both 16 c.lesser-of_two.result c.lesser-of_four.result least (omega arith) (omega arith) c.lesser-of_four.ensures
    (least_of_both 8 c.lesser-of_four.result c.lesser-of_8.result least (omega arith) (omega arith) c.lesser-of_8.ensures
    (least_of_both 4 c.lesser-of_8.result c.lesser-of_16.result least (omega arith) (omega arith) c.lesser-of_16.ensures
    (least_of_both 2 c.lesser-of_16.result c.lesser-of_32.result least (omega arith) (omega arith) c.lesser-of_32.ensures
    (least_of_both 1 c.lesser-of_32.result c.lesser.result least (omega arith) (omega arith) c.lesser.ensures one)))))

pub returns-clause-least : goal.returns-clause-least
returns-clause-least c = (least_of_all c).below

pub returns-clause-found : goal.returns-clause-found
returns-clause-found c = (least_of_all c).found
