use Rattle.wjs_programs.proofs.Whole.{units_are_trees}
use Rattle.wjs_programs.proofs.laws.units_are_trees.Goals as goal

pub returns : goal.returns
returns c = units_are_trees
