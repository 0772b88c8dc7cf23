use Rattle.frame_search.proofs.Table.{table_is_template}
use Rattle.frame_search.proofs.template.template.Goals as goal

pub returns : goal.returns
returns c = table_is_template
