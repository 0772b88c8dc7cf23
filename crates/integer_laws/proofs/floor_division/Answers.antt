use Rattle.integer_laws.proofs.FloorDivision.{floor_div-lower, floor_div-upper, floor_div-only, floor_div-monotone, floor_div-add_multiple}
use Rattle.integer_laws.proofs.floor_division.Goals as goal

pub returns : goal.returns
returns c = record {
  lower = floor_div-lower;
  upper = floor_div-upper;
  only = floor_div-only;
  monotone = floor_div-monotone;
  multiple = floor_div-add_multiple;
}
