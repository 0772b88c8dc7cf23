use Rattle.std.proofs.Common.{◌^◌, ◌*ℤ◌, refl, arith, w64}
use Rattle.std.specs.Prelude.{FitsSigned}
use Rattle.std.proofs.lemmas.Int.{to_z-of_z, fits_signed_mul}
use Rattle.integer_laws.proofs.Order.{unsigned_abs-product}
use Rattle.pilot_turns.proofs.decisions.product.Goals as goal

pub returns-clause-value : goal.returns-clause-value
returns-clause-value c =
    let whole : FitsSigned w64 (c.args.carrier *ℤ c.args.channel) = fits_signed_mul w64 c.args.carrier c.args.channel (2 ^ 22) (2 ^ 39) c.requires.carrier c.requires.channel (omega arith) in
    rw (to_z-of_z w64 c.args.carrier c.ranges.carrier, to_z-of_z w64 c.args.channel c.ranges.channel, to_z-of_z w64 _ whole) refl

pub returns-clause-within : goal.returns-clause-within
returns-clause-within c = rw (returns-clause-value c) (unsigned_abs-product c.args.carrier c.args.channel (2 ^ 22) (2 ^ 39) c.requires.carrier c.requires.channel)
