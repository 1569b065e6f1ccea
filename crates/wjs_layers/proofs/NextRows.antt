-- The next row of an object.
use Rattle.std.proofs.Common.{◌≡◌, Bool, true, false, ◌&&◌, Option, None, Some, IfSome, is_some, MatchOption, refl, ap, sym, ◌∙◌}
use Rattle.std.specs.Ordering.{is_lt, ordering_then}
use Rattle.std.specs.Cmp.{tied_itself}
use Rattle.std.specs.FinMap as map
use Rattle.std.specs.FinMap.{FinMap}
use Rattle.std.specs.Map.{lookup_entry}
use Rattle.std.specs.Option.{option_map}
use Rattle.std.proofs.lemmas.Bool.{true≢false, and_parts}
use Rattle.std.proofs.lemmas.Option.{same_Some}
use Rattle.wjs_base.specs.declared.ids.ObjId.{ObjId}
use Rattle.wjs_base.specs.declared.values.Slot.{Slot}
use Rattle.wjs_base.specs.declared.values.Name.{Name}
use Rattle.wjs_base.specs.Order.{slot_cmp, slot_total, slot_exact, obj_cmp, obj_total, name_cmp}
use Rattle.wjs_base.specs.Same.{object_Decides}
use Rattle.wjs_base.proofs.Options.{by_option, no_none}
use Rattle.wjs_slots.specs.Least.{is_object, comes_past, is_next_on}
use Rattle.wjs_layers.specs.declared.maps.Row.{Row}
use Rattle.wjs_layers.specs.Cursor.{to_come, IsNextRow}
use Rattle.wjs_layers.proofs.Cursors.{first_is}

abbrev name_in : Option Slot → Option Name
name_in = option_map (λ (s : Slot). s.name)

-- of an object's slots, those come after a slot whose names come after its name
come_alike : (o : ObjId) (passed : Option Slot) (s : Slot) → IfSome passed (λ (p : Slot). p.object ≡ o) → s.object ≡ o → to_come passed s ≡ comes_past (name_in passed) s.name
come_alike o None s on e = refl
come_alike o (Some p) s on e = ap is_lt (ap (λ v. ordering_then (obj_cmp v s.object) (name_cmp p.name s.name)) (on ∙ sym e) ∙ ap (λ c. ordering_then c (name_cmp p.name s.name)) (tied_itself obj_total s.object))

module _ (rows : FinMap slot_cmp Row) (o : ObjId) (passed : Option Slot) (on : IfSome passed (λ (p : Slot). p.object ≡ o)) where
  abbrev passes : Slot → Bool
  passes = is_next_on o (name_in passed)

  passes_is : (s : Slot) → passes s ≡ true → (s.object ≡ o) × (to_come passed s ≡ true)
  passes_is s h =
      let b = and_parts (is_object s.object o) (comes_past (name_in passed) s.name) h in
      let e = (object_Decides s.object o).0 b.0 in
      (e, come_alike o passed s on e ∙ b.1)

  passes_from : (s : Slot) → s.object ≡ o → to_come passed s ≡ true → passes s ≡ true
  passes_from s e h = ap (λ b. b && comes_past (name_in passed) s.name) ((object_Decides s.object o).1 e) ∙ sym (come_alike o passed s on e) ∙ h

  none_lt : (s e : Slot) → is_lt (slot_cmp s e) ≡ true → (is_some (map.get rows s) ≡ true → is_lt (slot_cmp s e) ≡ false) → map.get rows s ≡ None
  none_lt s e h f = by_option (map.get rows s) (λ z. z) (λ a z. absurd (true≢false (sym h ∙ f (ap is_some z))))

  next_of : (d : Option (Slot × Row)) → MatchOption d ((q : Slot) → passes q ≡ true → map.get rows q ≡ None) (λ e. (passes e.0 ≡ true) × (map.get rows e.0 ≡ Some e.1) × ((q : Slot) → passes q ≡ true → is_some (map.get rows q) ≡ true → is_lt (slot_cmp q e.0) ≡ false)) → IsNextRow rows o passed (option_map (λ (e : Slot × Row). e.0) d)
  next_of None g = record {
    on = λ s h. no_none s h;
    later = λ s h. no_none s h;
    there = λ s h. no_none s h;
    least = λ s e h b. g s (passes_from s e h);
  }
  next_of (Some d) g = record {
    on = λ s h. ap (λ (v : Slot). v.object) (sym (same_Some d.0 s h)) ∙ (passes_is d.0 g.0).0;
    later = λ s h. ap (to_come passed) (sym (same_Some d.0 s h)) ∙ (passes_is d.0 g.0).1;
    there = λ s h. ap (λ v. is_some (map.get rows v)) (sym (same_Some d.0 s h)) ∙ ap is_some g.1;
    least = λ s e h b. none_lt s d.0 b (g.2 s (passes_from s e h));
  }

  pub next_is : IsNextRow rows o passed (option_map (λ (e : Slot × Row). e.0) (lookup_entry passes (map.entries rows)))
  next_is = next_of (lookup_entry passes (map.entries rows)) (first_is slot_total slot_exact passes rows)
