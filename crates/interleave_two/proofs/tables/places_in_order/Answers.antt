use Rattle.std.proofs.Common.{refl, arith}
use Rattle.interleave_two.specs.declared.tables.TheConstants.{PLACES_48, PLACES_96, PLACES_192, PLACES_288}
use Rattle.interleave_two.proofs.Tabled.{largest, place_in_table}
use Rattle.interleave_two.proofs.tables.places_in_order.Goals as goal

pub returns-in-48-clause-places : goal.returns-in-48-clause-places
returns-in-48-clause-places c = place_in_table c.args.rate 48 PLACES_48 (omega arith) refl

pub returns-in-96-clause-places : goal.returns-in-96-clause-places
returns-in-96-clause-places c = place_in_table c.args.rate 96 PLACES_96 (omega arith) refl

pub returns-in-192-clause-places : goal.returns-in-192-clause-places
returns-in-192-clause-places c = place_in_table c.args.rate 192 PLACES_192 (omega arith) refl

pub returns-in_default-clause-places : goal.returns-in_default-clause-places
returns-in_default-clause-places c = place_in_table c.args.rate 288 PLACES_288 (largest c.args.rate (λ e. omega arith) (λ e. omega arith) (λ e. omega arith)) refl
