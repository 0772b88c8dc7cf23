-- The table of the template's samples is the template.
use Rattle.std.proofs.Common.{◌≡◌, pos, refl, ap, sym, ◌∙◌}
use Rattle.fixed_complex.specs.Laws.{sum_below}
use Rattle.fixed_complex.specs.Pairs.{times}
use Rattle.fixed_complex.specs.Turns.{turn_at}
use Rattle.carrier_bins.specs.Signs.{sign_at}
use Rattle.lane_kernels.specs.Kernels.{energy_of}
use Rattle.training_fields.specs.Training.{template_of}
use Rattle.frame_search.specs.declared.template.TheConstants.{TEMPLATE}

pub table_is_template : TEMPLATE ≡ template_of
unfolding sum_below times turn_at sign_at
table_is_template = refl

energy_of_table : energy_of TEMPLATE ≡ pos 1747291860
unfolding energy_of
energy_of_table = refl

pub energy_of_template : pos 1747291860 ≡ energy_of template_of
energy_of_template = sym energy_of_table ∙ ap energy_of table_is_template
