use Rattle.std.proofs.Common.{◌≡◌, ◌≤◌, max, length, drop}
use Rattle.wjs_tree.specs.Children.{ItemsBelow}
use Rattle.wjs_tree.specs.Facts.{highest, option_height}
use Rattle.wjs_tree.proofs.facts.items_height.Given as goal

abbrev pub invariant-loop-item : goal.invariant-loop-item
invariant-loop-item l =
    (max l.high (highest (option_height l.facts) (drop l.item-index l.list)) ≡ highest (option_height l.facts) l.list) × ItemsBelow (length l.facts) (drop l.item-index l.list) × (l.high ≤ length l.facts)
