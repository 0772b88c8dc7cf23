use Rattle.std.proofs.Common.{◌≡◌, ◌+◌, ◌-◌, ◌*◌, ◌/◌, ◌^◌, ◌∙◌, arith}
use Rattle.butterfly64.specs.Rows.{apart, first_read}
use Rattle.butterfly64.proofs.RowPlaces.{row_of_size, two_at}
use Rattle.butterfly64.proofs.stages.read_rows.Goals as goal

pub four_apart-requires-clause-a : goal.four_apart-requires-clause-a
four_apart-requires-clause-a c = row_of_size (2 ^ 30 - 2 ^ 12) c.args.x.now (2 * c.args.p) (omega arith) c.requires.sizes

pub four_apart-requires-clause-b : goal.four_apart-requires-clause-b
four_apart-requires-clause-b c = row_of_size (2 ^ 30 - 2 ^ 12) c.args.x.now (2 * c.args.p + 1) (omega arith) c.requires.sizes

pub two_apart-requires-clause-a : goal.two_apart-requires-clause-a
two_apart-requires-clause-a c = row_of_size (2 ^ 30 - 2 ^ 12) c.args.x.now (2 * c.args.p) (omega arith) c.requires.sizes

pub two_apart-requires-clause-b : goal.two_apart-requires-clause-b
two_apart-requires-clause-b c = row_of_size (2 ^ 30 - 2 ^ 12) c.args.x.now (2 * c.args.p + 1) (omega arith) c.requires.sizes

pub one_apart-requires-clause-a : goal.one_apart-requires-clause-a
one_apart-requires-clause-a c = row_of_size (2 ^ 30 - 2 ^ 12) c.args.x.now (2 * c.args.p) (omega arith) c.requires.sizes

pub one_apart-requires-clause-b : goal.one_apart-requires-clause-b
one_apart-requires-clause-b c = row_of_size (2 ^ 30 - 2 ^ 12) c.args.x.now (2 * c.args.p + 1) (omega arith) c.requires.sizes

pub returns-in-3-clause-first : goal.returns-in-3-clause-first
returns-in-3-clause-first c = λ l h.
    let xs = c.args.x.now in
    let p = c.args.p in
    let at : first_read c.args.stage (8 * c.args.p + l) ≡ 16 * c.args.p + (l + 4 * (l / 4)) = rw c.in-3.is (omega arith) in
    c.four_apart.ensures.lower l h ∙ two_at xs p (l + 4 * (l / 4)) (first_read c.args.stage (8 * c.args.p + l)) at (omega arith)

pub returns-in-3-clause-second : goal.returns-in-3-clause-second
returns-in-3-clause-second c = λ l h.
    let xs = c.args.x.now in
    let p = c.args.p in
    let at : first_read c.args.stage (8 * c.args.p + l) + apart c.args.stage ≡ 16 * c.args.p + (l + 4 * (l / 4) + 4) = rw c.in-3.is (omega arith) in
    c.four_apart.ensures.upper l h ∙ two_at xs p (l + 4 * (l / 4) + 4) (first_read c.args.stage (8 * c.args.p + l) + apart c.args.stage) at (omega arith)

pub returns-in-4-clause-first : goal.returns-in-4-clause-first
returns-in-4-clause-first c = λ l h.
    let xs = c.args.x.now in
    let p = c.args.p in
    let at : first_read c.args.stage (8 * c.args.p + l) ≡ 16 * c.args.p + (l + 2 * (l / 2)) = rw c.in-4.is (omega arith) in
    c.two_apart.ensures.lower l h ∙ two_at xs p (l + 2 * (l / 2)) (first_read c.args.stage (8 * c.args.p + l)) at (omega arith)

pub returns-in-4-clause-second : goal.returns-in-4-clause-second
returns-in-4-clause-second c = λ l h.
    let xs = c.args.x.now in
    let p = c.args.p in
    let at : first_read c.args.stage (8 * c.args.p + l) + apart c.args.stage ≡ 16 * c.args.p + (l + 2 * (l / 2) + 2) = rw c.in-4.is (omega arith) in
    c.two_apart.ensures.upper l h ∙ two_at xs p (l + 2 * (l / 2) + 2) (first_read c.args.stage (8 * c.args.p + l) + apart c.args.stage) at (omega arith)

pub returns-in_default-clause-first : goal.returns-in_default-clause-first
returns-in_default-clause-first c = λ l h.
    let xs = c.args.x.now in
    let p = c.args.p in
    let five : c.args.stage ≡ 5 = omega arith in
    let at : first_read c.args.stage (8 * c.args.p + l) ≡ 16 * c.args.p + (l + 1 * (l / 1)) = rw five (omega arith) in
    c.one_apart.ensures.lower l h ∙ two_at xs p (l + 1 * (l / 1)) (first_read c.args.stage (8 * c.args.p + l)) at (omega arith)

pub returns-in_default-clause-second : goal.returns-in_default-clause-second
returns-in_default-clause-second c = λ l h.
    let xs = c.args.x.now in
    let p = c.args.p in
    let five : c.args.stage ≡ 5 = omega arith in
    let at : first_read c.args.stage (8 * c.args.p + l) + apart c.args.stage ≡ 16 * c.args.p + (l + 1 * (l / 1) + 1) = rw five (omega arith) in
    c.one_apart.ensures.upper l h ∙ two_at xs p (l + 1 * (l / 1) + 1) (first_read c.args.stage (8 * c.args.p + l) + apart c.args.stage) at (omega arith)
