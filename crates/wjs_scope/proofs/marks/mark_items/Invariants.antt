use Rattle.std.proofs.Common.{◌≡◌, length, drop}
use Rattle.wjs_tree.specs.Children.{ItemsBelow}
use Rattle.wjs_scope.specs.Nesting.{item_parts}
use Rattle.wjs_scope.specs.Marks.{marked}
use Rattle.wjs_scope.proofs.marks.mark_items.Given as goal

abbrev pub invariant-loop-item : goal.invariant-loop-item
invariant-loop-item l =
    (marked l.initial.table l.at (item_parts l.list) ≡ marked l.table l.at (item_parts (drop l.item-index l.list))) × ItemsBelow (length l.initial.table) (drop l.item-index l.list) × (length l.table ≡ length l.initial.table)
