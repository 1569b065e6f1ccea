use Rattle.wjs_tree.specs.Shows.{Keeps}
use Rattle.wjs_parse_expr.specs.Table.{Holds}
use Rattle.wjs_parse.specs.Answers.{AreBehind}
use Rattle.wjs_parse.proofs.whole.functions.Given as goal

abbrev pub invariant-loop-place : goal.invariant-loop-place
invariant-loop-place l = Keeps l.fn.nodes l.nodes × Holds l.toks l.found l.place 200 l.nodes × AreBehind l.found l.place

abbrev pub decreases-loop-place : goal.decreases-loop-place
decreases-loop-place l = l.place
