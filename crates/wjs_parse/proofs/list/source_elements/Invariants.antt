use Rattle.std.proofs.Common.{◌-◌, ◌≤◌, length}
use Rattle.wjs_tree.specs.Children.{AreBelow}
use Rattle.wjs_tree.specs.Shows.{Keeps}
use Rattle.wjs_parse_expr.specs.Table.{MayBegin}
use Rattle.wjs_parse.specs.Made.{ElementsMade}
use Rattle.wjs_parse.proofs.Items.{Gathered}
use Rattle.wjs_parse.proofs.list.source_elements.Given as goal

abbrev pub invariant-loop-alloc : goal.invariant-loop-alloc
invariant-loop-alloc l = Gathered l.toks l.room l.at l.nodes l.list.items l.place × Keeps l.fn.nodes l.nodes × (l.at ≤ l.place) × AreBelow (length l.nodes) l.list.items × ElementsMade l.functions l.fn.nodes l.nodes l.at l.list.items l.place × MayBegin l.toks l.place

abbrev pub decreases-loop-alloc : goal.decreases-loop-alloc
decreases-loop-alloc l = length l.toks - l.place
