use Rattle.std.proofs.Common.{◌≡◌, map, length, take, drop}
use Rattle.wjs_tree.specs.Children.{ItemsBelow}
use Rattle.wjs_order.specs.Renumbered.{number_in, new_option}
use Rattle.wjs_order.proofs.renumber.items.Given as goal

abbrev pub invariant-loop-item : goal.invariant-loop-item
invariant-loop-item l = (l.made.items ≡ map (new_option (number_in l.to)) (take l.item-index l.items)) × ItemsBelow (length l.to) (drop l.item-index l.items)
