use Rattle.std.proofs.Common.{◌≡◌, length, drop}
use Rattle.wjs_tree.specs.Children.{AreBelow}
use Rattle.wjs_scope.specs.Marks.{marked}
use Rattle.wjs_scope.proofs.marks.mark_list.Given as goal

abbrev pub invariant-loop-id : goal.invariant-loop-id
invariant-loop-id l =
    (marked l.initial.table l.at l.list ≡ marked l.table l.at (drop l.id-index l.list)) × AreBelow (length l.initial.table) (drop l.id-index l.list) × (length l.table ≡ length l.initial.table)
