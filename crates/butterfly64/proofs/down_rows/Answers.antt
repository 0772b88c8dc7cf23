use Rattle.std.proofs.Common.{◌+◌, ◌*◌, ◌^◌, refl, arith}
use Rattle.butterfly64.specs.Rows.{place_in}
use Rattle.butterfly64.proofs.PartStages.{lies-first, lies-last, parted_1, parted_2, parted_3, parted_4, parted_5, parted_6, sized-next}
use Rattle.butterfly64.proofs.RowPlaces.{rows_wider}
use Rattle.butterfly64.proofs.StagedSizes.{grown_by, six_joins}
use Rattle.butterfly64.proofs.down_rows.Goals as goal

pub part_rows-requires-clause-sizes : goal.part_rows-requires-clause-sizes
part_rows-requires-clause-sizes c =
    let z0 = c.requires in
    rows_wider (grown_by 0 (2 ^ 24)) (2 ^ 29 + 2 ^ 14) c.args.rows.now (omega arith) z0

pub part_rows-requires-2-clause-sizes : goal.part_rows-requires-2-clause-sizes
part_rows-requires-2-clause-sizes c =
    let z0 = c.requires in
    let z1 = sized-next 0 (grown_by 0 (2 ^ 24)) c.args.rows.now c.part_rows.new.y (omega arith) z0 c.part_rows.ensures in
    rows_wider (grown_by 1 (2 ^ 24)) (2 ^ 29 + 2 ^ 14) c.part_rows.new.y (omega arith) z1

pub part_rows-requires-3-clause-sizes : goal.part_rows-requires-3-clause-sizes
part_rows-requires-3-clause-sizes c =
    let z0 = c.requires in
    let z1 = sized-next 0 (grown_by 0 (2 ^ 24)) c.args.rows.now c.part_rows.new.y (omega arith) z0 c.part_rows.ensures in
    let z2 = sized-next 1 (grown_by 1 (2 ^ 24)) c.part_rows.new.y c.part_rows-2.new.y (omega arith) z1 c.part_rows-2.ensures in
    rows_wider (grown_by 2 (2 ^ 24)) (2 ^ 29 + 2 ^ 14) c.part_rows-2.new.y (omega arith) z2

pub part_rows-requires-4-clause-sizes : goal.part_rows-requires-4-clause-sizes
part_rows-requires-4-clause-sizes c =
    let z0 = c.requires in
    let z1 = sized-next 0 (grown_by 0 (2 ^ 24)) c.args.rows.now c.part_rows.new.y (omega arith) z0 c.part_rows.ensures in
    let z2 = sized-next 1 (grown_by 1 (2 ^ 24)) c.part_rows.new.y c.part_rows-2.new.y (omega arith) z1 c.part_rows-2.ensures in
    let z3 = sized-next 2 (grown_by 2 (2 ^ 24)) c.part_rows-2.new.y c.part_rows-3.new.y (omega arith) z2 c.part_rows-3.ensures in
    rows_wider (grown_by 3 (2 ^ 24)) (2 ^ 29 + 2 ^ 14) c.part_rows-3.new.y (omega arith) z3

pub part_rows-requires-5-clause-sizes : goal.part_rows-requires-5-clause-sizes
part_rows-requires-5-clause-sizes c =
    let z0 = c.requires in
    let z1 = sized-next 0 (grown_by 0 (2 ^ 24)) c.args.rows.now c.part_rows.new.y (omega arith) z0 c.part_rows.ensures in
    let z2 = sized-next 1 (grown_by 1 (2 ^ 24)) c.part_rows.new.y c.part_rows-2.new.y (omega arith) z1 c.part_rows-2.ensures in
    let z3 = sized-next 2 (grown_by 2 (2 ^ 24)) c.part_rows-2.new.y c.part_rows-3.new.y (omega arith) z2 c.part_rows-3.ensures in
    let z4 = sized-next 3 (grown_by 3 (2 ^ 24)) c.part_rows-3.new.y c.part_rows-4.new.y (omega arith) z3 c.part_rows-4.ensures in
    rows_wider (grown_by 4 (2 ^ 24)) (2 ^ 29 + 2 ^ 14) c.part_rows-4.new.y (omega arith) z4

pub part_rows-requires-6-clause-sizes : goal.part_rows-requires-6-clause-sizes
part_rows-requires-6-clause-sizes c =
    let z0 = c.requires in
    let z1 = sized-next 0 (grown_by 0 (2 ^ 24)) c.args.rows.now c.part_rows.new.y (omega arith) z0 c.part_rows.ensures in
    let z2 = sized-next 1 (grown_by 1 (2 ^ 24)) c.part_rows.new.y c.part_rows-2.new.y (omega arith) z1 c.part_rows-2.ensures in
    let z3 = sized-next 2 (grown_by 2 (2 ^ 24)) c.part_rows-2.new.y c.part_rows-3.new.y (omega arith) z2 c.part_rows-3.ensures in
    let z4 = sized-next 3 (grown_by 3 (2 ^ 24)) c.part_rows-3.new.y c.part_rows-4.new.y (omega arith) z3 c.part_rows-4.ensures in
    let z5 = sized-next 4 (grown_by 4 (2 ^ 24)) c.part_rows-4.new.y c.part_rows-5.new.y (omega arith) z4 c.part_rows-5.ensures in
    rows_wider (grown_by 5 (2 ^ 24)) (2 ^ 29 + 2 ^ 14) c.part_rows-5.new.y (omega arith) z5

pub returns-clause-sums : goal.returns-clause-sums
returns-clause-sums c =
    let x = place_in c.args.rows.now in
    let s0 = lies-first x x (λ n lt. refl) in
    let s1 = parted_1 x x (place_in c.part_rows.new.y) s0 c.part_rows.ensures in
    let s2 = parted_2 x (place_in c.part_rows.new.y) (place_in c.part_rows-2.new.y) s1 c.part_rows-2.ensures in
    let s3 = parted_3 x (place_in c.part_rows-2.new.y) (place_in c.part_rows-3.new.y) s2 c.part_rows-3.ensures in
    let s4 = parted_4 x (place_in c.part_rows-3.new.y) (place_in c.part_rows-4.new.y) s3 c.part_rows-4.ensures in
    let s5 = parted_5 x (place_in c.part_rows-4.new.y) (place_in c.part_rows-5.new.y) s4 c.part_rows-5.ensures in
    let s6 = parted_6 x (place_in c.part_rows-5.new.y) (place_in c.part_rows-6.new.y) s5 c.part_rows-6.ensures in
    λ n lt. lies-last x (place_in c.part_rows-6.new.y) s6 n lt

pub returns-clause-sizes : goal.returns-clause-sizes
returns-clause-sizes c =
    let z0 = c.requires in
    let z1 = sized-next 0 (grown_by 0 (2 ^ 24)) c.args.rows.now c.part_rows.new.y (omega arith) z0 c.part_rows.ensures in
    let z2 = sized-next 1 (grown_by 1 (2 ^ 24)) c.part_rows.new.y c.part_rows-2.new.y (omega arith) z1 c.part_rows-2.ensures in
    let z3 = sized-next 2 (grown_by 2 (2 ^ 24)) c.part_rows-2.new.y c.part_rows-3.new.y (omega arith) z2 c.part_rows-3.ensures in
    let z4 = sized-next 3 (grown_by 3 (2 ^ 24)) c.part_rows-3.new.y c.part_rows-4.new.y (omega arith) z3 c.part_rows-4.ensures in
    let z5 = sized-next 4 (grown_by 4 (2 ^ 24)) c.part_rows-4.new.y c.part_rows-5.new.y (omega arith) z4 c.part_rows-5.ensures in
    let z6 = sized-next 5 (grown_by 5 (2 ^ 24)) c.part_rows-5.new.y c.part_rows-6.new.y (omega arith) z5 c.part_rows-6.ensures in
    rows_wider (grown_by 6 (2 ^ 24)) (65 * 2 ^ 24 + 256) c.part_rows-6.new.y (six_joins (2 ^ 24) (omega arith)) z6
