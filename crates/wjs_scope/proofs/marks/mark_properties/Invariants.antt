use Rattle.std.proofs.Common.{◌≡◌, length, drop}
use Rattle.wjs_tree.specs.Children.{PropertiesBelow}
use Rattle.wjs_scope.specs.Nesting.{property_parts}
use Rattle.wjs_scope.specs.Marks.{marked}
use Rattle.wjs_scope.proofs.marks.mark_properties.Given as goal

abbrev pub invariant-loop-property : goal.invariant-loop-property
invariant-loop-property l =
    (marked l.initial.table l.at (property_parts l.list) ≡ marked l.table l.at (property_parts (drop l.property-index l.list))) × PropertiesBelow (length l.initial.table) (drop l.property-index l.list) × (length l.table ≡ length l.initial.table)
