use Rattle.std.proofs.Common.{◌≡◌, ◌^◌, pos, ◌*ℤ◌, refl, arith, to_z, of_z}
use Rattle.std.specs.Prelude.{FitsSigned}
use Rattle.std.proofs.lemmas.Int.{to_z-of_z, fits_signed_mul}
use mir.Syntax.{w64}
use Rattle.constellations.proofs.lies_above.Goals as goal

pub returns : goal.returns
returns c =
    let part : to_z w64 (of_z w64 c.args.part) ≡ c.args.part = to_z-of_z w64 c.args.part c.ranges.part in
    let threshold : to_z w64 (of_z w64 c.args.threshold) ≡ c.args.threshold = to_z-of_z w64 c.args.threshold c.ranges.threshold in
    let m : to_z w64 (of_z w64 c.args.m) ≡ c.args.m = to_z-of_z w64 c.args.m c.ranges.m in
    let left : FitsSigned w64 (c.args.threshold *ℤ c.args.m) = fits_signed_mul w64 c.args.threshold c.args.m (2 ^ 10) (2 ^ 47) c.requires.threshold c.requires.m (omega arith) in
    let right : FitsSigned w64 (pos 1296 *ℤ c.args.part) = fits_signed_mul w64 (pos 1296) c.args.part 1296 (2 ^ 46) (omega arith) c.requires.part (omega arith) in
    rw (part, threshold, m, to_z-of_z w64 _ left, to_z-of_z w64 _ right) refl
