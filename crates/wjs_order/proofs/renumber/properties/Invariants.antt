use Rattle.std.proofs.Common.{◌≡◌, map, length, take, drop}
use Rattle.wjs_tree.specs.Children.{PropertiesBelow}
use Rattle.wjs_order.specs.Renumbered.{number_in, new_property}
use Rattle.wjs_order.proofs.renumber.properties.Given as goal

abbrev pub invariant-loop-property : goal.invariant-loop-property
invariant-loop-property l = (l.made.items ≡ map (new_property (number_in l.to)) (take l.property-index l.properties)) × PropertiesBelow (length l.to) (drop l.property-index l.properties)
