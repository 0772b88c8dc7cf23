use Rattle.std.proofs.Common.{refl, arith}
use Rattle.interleave_two.specs.declared.tables.TheConstants.{SOURCES_48, SOURCES_96, SOURCES_192, SOURCES_288}
use Rattle.interleave_two.proofs.Tabled.{largest, source_in_table}
use Rattle.interleave_two.proofs.tables.sources_in_order.Goals as goal

pub returns-in-48-clause-sources : goal.returns-in-48-clause-sources
returns-in-48-clause-sources c = source_in_table c.args.rate 48 SOURCES_48 (omega arith) refl

pub returns-in-96-clause-sources : goal.returns-in-96-clause-sources
returns-in-96-clause-sources c = source_in_table c.args.rate 96 SOURCES_96 (omega arith) refl

pub returns-in-192-clause-sources : goal.returns-in-192-clause-sources
returns-in-192-clause-sources c = source_in_table c.args.rate 192 SOURCES_192 (omega arith) refl

pub returns-in_default-clause-sources : goal.returns-in_default-clause-sources
returns-in_default-clause-sources c = source_in_table c.args.rate 288 SOURCES_288 (largest c.args.rate (λ e. omega arith) (λ e. omega arith) (λ e. omega arith)) refl
