-- The World object of a world by content is the one by number.
use Rattle.std.proofs.Common.{◌≡◌, Bool, true, false, cond, List, [], ◌∷◌, Option, None, Some, refl, ap, sym, ◌∙◌}
use Rattle.std.specs.Bool.{Decides}
use Rattle.std.specs.Cmp.{unsigned_Decides}
use Rattle.std.specs.Option.{option_map, option_and_then}
use Rattle.std.specs.Ordering.{eq_by_cmp}
use Rattle.std.specs.FinMap as map
use Rattle.std.proofs.lemmas.Bool.{true≢false, and_parts, and_from}
use Rattle.wjs_base.specs.declared.ids.ObjId.{ObjId}
use Rattle.wjs_base.specs.declared.ids.WorldId.{WorldId}
use Rattle.wjs_base.specs.Order.{obj_cmp, obj_total, obj_exact}
use Rattle.wjs_base.specs.Text.{Table}
use Rattle.wjs_store.specs.State.{same_world}
use Rattle.wjs_by_content.specs.Renamed.{Holds}
use Rattle.wjs_by_content.proofs.RenamedKnown.{entries_hold}
use Rattle.wjs_arena.specs.Entries as numbered
use Rattle.wjs_arena.specs.Entries.{Entry as NumberedEntry, Objects}
use Rattle.wjs_by_content.specs.Objects.{Entry, Arena, has_that_world, world_object_in, world_object}
use Rattle.wjs_by_content.specs.Tables.{entry_in, arena_in}
use Rattle.wjs_by_content.proofs.ArenaMaps.{object_found}

world_Decides : (x y : WorldId) → Decides (same_world x y) (x ≡ y)
world_Decides x y =
    let d = unsigned_Decides x.owner y.owner in
    let f = unsigned_Decides x.serial y.serial in
    (λ h. let p = and_parts _ _ h in λ i. record { owner = d.0 p.0 i; serial = f.0 p.1 i }, λ e. and_from _ _ (d.1 (ap (λ (z : WorldId). z.owner) e)) (f.1 (ap (λ (z : WorldId). z.serial) e)))

has_world_is : (w : WorldId) (o : Option WorldId) → has_that_world w o ≡ true → o ≡ Some w
has_world_is w None h = absurd (true≢false (sym h))
has_world_is w (Some v) h = ap Some ((world_Decides v w).0 h)

is_world_has : (w : WorldId) (o : Option WorldId) → o ≡ Some w → has_that_world w o ≡ true
is_world_has w None e = cc
is_world_has w (Some v) e = let h : v ≡ w = cc in (world_Decides v w).1 h

-- the world that an object of the arena has
abbrev pub world_at : Arena → ObjId → Option WorldId
world_at arena o = option_and_then (λ (e : Entry). e.object.world) (map.get arena o)

module _ (arena : Arena) (w : WorldId) where
  found_has : (es : List (ObjId × Entry)) → Holds (λ x. map.get arena x.0 ≡ Some x.1) es → (o : ObjId) → world_object_in es w ≡ Some o → world_at arena o ≡ Some w
  found_has [] h o e = cc
  found_has (x ∷ es) h o e = by (has_that_world w (x.1).object.world) refl (λ f. found_has es h.1 o f) e
    where
      by : (b : Bool) → has_that_world w (x.1).object.world ≡ b → (world_object_in es w ≡ Some o → world_at arena o ≡ Some w) → cond b (Some x.0) (world_object_in es w) ≡ Some o → world_at arena o ≡ Some w
      by true t rest f =
          let p : x.0 ≡ o = cc in
          ap (world_at arena) (sym p) ∙ ap (option_and_then (λ (y : Entry). y.object.world)) h.0 ∙ has_world_is w (x.1).object.world t
      by false t rest f = rest f

  none_has : (es : List (ObjId × Entry)) → world_object_in es w ≡ None → (o : ObjId) (y : Entry) → map.find obj_cmp o es ≡ Some y → has_that_world w y.object.world ≡ true → ⊥
  none_has [] n o y f t = cc
  none_has (x ∷ es) n o y f t = by (has_that_world w (x.1).object.world) refl (λ m g. none_has es m o y g t) n
    where
      here : (c : Bool) → has_that_world w (x.1).object.world ≡ false → (map.find obj_cmp o es ≡ Some y → ⊥) → cond c (Some x.1) (map.find obj_cmp o es) ≡ Some y → ⊥
      here true b rest g = let p : x.1 ≡ y = cc in true≢false (sym t ∙ ap (λ (z : Entry). has_that_world w z.object.world) (sym p) ∙ b)
      here false b rest g = rest g

      by : (b : Bool) → has_that_world w (x.1).object.world ≡ b → (world_object_in es w ≡ None → map.find obj_cmp o es ≡ Some y → ⊥) → cond b (Some x.0) (world_object_in es w) ≡ None → ⊥
      by true b rest m = cc
      by false b rest m = here (eq_by_cmp obj_cmp o x.0) b (rest m) f

  pub object_has_world : (o : ObjId) → world_object arena w ≡ Some o → world_at arena o ≡ Some w
  object_has_world o e = found_has (map.entries arena) (entries_hold obj_total obj_exact (λ k v. map.get arena k ≡ Some v) arena (λ k v q. q)) o e

  at_entry : (o : ObjId) (x : Option Entry) → map.get arena o ≡ x → option_and_then (λ (e : Entry). e.object.world) x ≡ Some w → world_object arena w ≡ None → ⊥
  at_entry o None q e n = cc
  at_entry o (Some y) q e n = none_has (map.entries arena) n o y (sym (map.get-entries arena o) ∙ q) (is_world_has w y.object.world e)

  pub no_object_no_world : (o : ObjId) → world_object arena w ≡ None → world_at arena o ≡ Some w → ⊥
  no_object_no_world o n e = at_entry o (map.get arena o) refl e n

module _ (texts : Table) (objects : Objects) (w : WorldId) where
  world_if : (x : Option NumberedEntry) → option_and_then (λ (e : Entry). e.object.world) (option_map (entry_in texts) x) ≡ option_and_then (λ (e : NumberedEntry). e.object.world) x
  world_if None = refl
  world_if (Some e) = refl

  world_same : (o : ObjId) → world_at (arena_in texts objects) o ≡ numbered.world_of objects o
  world_same o = ap (option_and_then (λ (e : Entry). e.object.world)) (object_found texts objects o) ∙ world_if (map.get objects o)

  -- the one object of the world
  pub world_object_there : ((a b : ObjId) → numbered.world_of objects a ≡ Some w → numbered.world_of objects b ≡ Some w → a ≡ b) → (o : ObjId) → numbered.world_of objects o ≡ Some w → world_object (arena_in texts objects) w ≡ Some o
  world_object_there one o e = by (world_object (arena_in texts objects) w) refl
    where
      by : (r : Option ObjId) → world_object (arena_in texts objects) w ≡ r → r ≡ Some o
      by (Some p) q = ap Some (one p o (sym (world_same p) ∙ object_has_world (arena_in texts objects) w p q) e)
      by None q = absurd (no_object_no_world (arena_in texts objects) w o q (world_same o ∙ e))

  pub world_object_none : ((o : ObjId) → numbered.world_of objects o ≡ Some w → ⊥) → world_object (arena_in texts objects) w ≡ None
  world_object_none none = by (world_object (arena_in texts objects) w) refl
    where
      by : (r : Option ObjId) → world_object (arena_in texts objects) w ≡ r → r ≡ None
      by None q = refl
      by (Some p) q = absurd (none p (sym (world_same p) ∙ object_has_world (arena_in texts objects) w p q))
