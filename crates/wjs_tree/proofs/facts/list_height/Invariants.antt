use Rattle.std.proofs.Common.{◌≡◌, ◌≤◌, max, length, drop}
use Rattle.wjs_tree.specs.Children.{AreBelow}
use Rattle.wjs_tree.specs.Facts.{highest, height_at}
use Rattle.wjs_tree.proofs.facts.list_height.Given as goal

abbrev pub invariant-loop-a : goal.invariant-loop-a
invariant-loop-a l =
    (max l.high (highest (height_at l.facts) (drop l.a-index l.list)) ≡ highest (height_at l.facts) l.list) × AreBelow (length l.facts) (drop l.a-index l.list) × (l.high ≤ length l.facts)
