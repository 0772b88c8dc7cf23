use Rattle.frame_search.proofs.Table.{energy_of_template}
use Rattle.frame_search.proofs.template.template_energy.Goals as goal

pub returns-clause-value : goal.returns-clause-value
returns-clause-value c = energy_of_template
