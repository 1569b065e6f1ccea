use Rattle.std.proofs.Common.{◌≡◌, ◌≤◌, max, length, drop}
use Rattle.wjs_tree.specs.Children.{DeclaratorsBelow}
use Rattle.wjs_tree.specs.Facts.{highest, option_height}
use Rattle.wjs_tree.specs.declared.node.Declarator.{Declarator}
use Rattle.wjs_tree.proofs.facts.declarators_height.Given as goal

abbrev pub invariant-loop-declarator : goal.invariant-loop-declarator
invariant-loop-declarator l =
    (max l.high (highest (λ (d : Declarator). option_height l.facts d.value) (drop l.declarator-index l.list)) ≡ highest (λ (d : Declarator). option_height l.facts d.value) l.list) × DeclaratorsBelow (length l.facts) (drop l.declarator-index l.list) × (l.high ≤ length l.facts)
