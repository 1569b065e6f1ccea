use Rattle.std.proofs.Common.{◌≡◌, ◌≤◌, max, length, drop}
use Rattle.wjs_tree.specs.Children.{PropertiesBelow}
use Rattle.wjs_tree.specs.Facts.{highest, height_at}
use Rattle.wjs_tree.specs.declared.node.Property.{Property}
use Rattle.wjs_tree.proofs.facts.properties_height.Given as goal

abbrev pub invariant-loop-property : goal.invariant-loop-property
invariant-loop-property l =
    (max l.high (highest (λ (p : Property). height_at l.facts p.value) (drop l.property-index l.list)) ≡ highest (λ (p : Property). height_at l.facts p.value) l.list) × PropertiesBelow (length l.facts) (drop l.property-index l.list) × (l.high ≤ length l.facts)
