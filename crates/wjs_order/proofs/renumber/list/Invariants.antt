use Rattle.std.proofs.Common.{◌≡◌, map, length, take, drop}
use Rattle.wjs_tree.specs.Children.{AreBelow}
use Rattle.wjs_order.specs.Renumbered.{number_in, new_id}
use Rattle.wjs_order.proofs.renumber.list.Given as goal

abbrev pub invariant-loop-node : goal.invariant-loop-node
invariant-loop-node l = (l.made.items ≡ map (new_id (number_in l.to)) (take l.node-index l.nodes)) × AreBelow (length l.to) (drop l.node-index l.nodes)
