use Rattle.std.proofs.Common.{◌≡◌, rules, sym, ap, ◌∙◌, List}
use Rattle.std.specs.FinMap as map
use Rattle.std.specs.Map.{keys_of}
use Rattle.wjs_base.specs.Order.{slot_total}
use Rattle.wjs_base.specs.declared.values.Slot.{Slot}
use Rattle.wjs_base.proofs.Trees.{entries_tree}
use Rattle.wjs_layers.proofs.maps.SlotSet.slots.Goals as goal

pub returns : goal.returns
returns c =
    let h : c.in_ok-collect.field-0.items ≡ keys_of c.self.inside.tree.entries = search rules in
    h ∙ ap (λ (es : List (Slot × Unit {0})). keys_of es) (sym (entries_tree slot_total c.self.inside.tree.entries c.keys.ensures.ordered)) ∙ ap map.keys c.self.view_is
