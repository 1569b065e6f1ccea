-- Objects that are there are the same with further objects beside them.
use Rattle.std.proofs.Common.{◌≡◌, ℕ, zero, suc, ◌+◌, ◌==◌, Bool, true, false, cond, List, [], ◌∷◌, ◌++◌, Option, None, Some, refl, sym, ap, ◌∙◌, Ordering, IsTrue}
use Rattle.std.specs.Prelude.{is_some, unwrap_or, max}
use Rattle.std.specs.Option.{option_or, option_map, option_map_or, option_and_then}
use Rattle.std.specs.Ordering.{eq_by_cmp}
use Rattle.std.specs.FinMap as map
use Rattle.wjs_base.specs.declared.ids.ObjId.{ObjId}
use Rattle.wjs_base.specs.declared.ids.WorldId.{WorldId}
use Rattle.wjs_base.specs.Order.{obj_cmp, obj_total, obj_exact}
use Rattle.wjs_base.specs.Text.{Table}
use Rattle.wjs_base.proofs.Numbers.{equal_from_test}
use Rattle.wjs_arena.specs.declared.class.Class.TheVariants as class
use Rattle.wjs_arena.specs.Entries as numbered
use Rattle.wjs_arena.specs.Entries.{Entry as Placed, Objects, IsArena}
use Rattle.wjs_by_content.specs.Objects.{Arena, Entry, Internals, object_of, has_object, object_at, depth_at, depth_of, next_number, entry_of, created, chain_of, chain, prototypes, scope_up, world_object}
use Rattle.wjs_by_content.specs.Tables.{arena_in, entry_in}
use Rattle.wjs_by_content.proofs.ArenaMaps.{object_found, prototype_same, scope_same}
use Rattle.wjs_by_content.proofs.WorldObjects.{world_at, object_has_world, no_object_no_world}
use Rattle.wjs_model.specs.Outside.{beside}

-- ---- maps

find_either : (q : ObjId) (xs ys : List (ObjId × Entry)) → map.find obj_cmp q (xs ++ ys) ≡ option_or (map.find obj_cmp q xs) (map.find obj_cmp q ys)
find_either q [] ys = refl
find_either q (x ∷ xs) ys = by (eq_by_cmp obj_cmp q x.0) (find_either q xs ys)
  where
    by : (b : Bool) → map.find obj_cmp q (xs ++ ys) ≡ option_or (map.find obj_cmp q xs) (map.find obj_cmp q ys) → cond b (Some x.1) (map.find obj_cmp q (xs ++ ys)) ≡ option_or (cond b (Some x.1) (map.find obj_cmp q xs)) (map.find obj_cmp q ys)
    by true e = refl
    by false e = e

pub get_beside : (a more : Arena) (o : ObjId) → map.get (beside a more) o ≡ option_or (map.get a o) (map.get more o)
get_beside a more o =
    map.get-from_entries obj_total (map.entries a ++ map.entries more) o
    ∙ find_either o (map.entries a) (map.entries more)
    ∙ (λ i. option_or (sym (map.get-entries a o) i) (sym (map.get-entries more o) i))

or_none : {A : Type 0} (r s : Option A) → s ≡ None → option_or r s ≡ r
or_none None s e = e
or_none (Some x) s e = refl

-- with none beside them
pub beside_nothing : (a : Arena) → beside a map.empty ≡ a
beside_nothing a = map.same_map obj_total obj_exact (beside a map.empty) a (λ q. get_beside a map.empty q ∙ or_none (map.get a q) _ (map.get-empty obj_cmp q))

-- ---- objects that are there

or_there : {A : Type 0} (r s : Option A) → IsTrue (is_some r) → option_or r s ≡ r
or_there None s h = absurd (cc)
or_there (Some x) s h = refl

found_beside : (a more : Arena) (o : ObjId) → IsTrue (has_object a o) → map.get (beside a more) o ≡ map.get a o
found_beside a more o h = get_beside a more o ∙ or_there (map.get a o) (map.get more o) h

pub object_beside : (a more : Arena) (o : ObjId) → IsTrue (has_object a o) → object_at (beside a more) o ≡ object_at a o
object_beside a more o h = ap (λ (r : Option Entry). option_map_or (λ (e : Entry). e.object) r (object_of class.Plain None)) (found_beside a more o h)

depth_beside : (a more : Arena) (o : ObjId) → IsTrue (has_object a o) → depth_at (beside a more) o ≡ depth_at a o
depth_beside a more o h = ap (λ (r : Option Entry). option_map_or (λ (e : Entry). e.depth) r 0) (found_beside a more o h)

-- an object that is named, if one is, is there
abbrev pub IsIn : Arena → Option ObjId → Type 0
IsIn a None = Unit {0}
IsIn a (Some o) = IsTrue (has_object a o)

depth_of_beside : (a more : Arena) (o : Option ObjId) → IsIn a o → depth_of (beside a more) o ≡ depth_of a o
depth_of_beside a more None h = refl
depth_of_beside a more (Some o) h = depth_beside a more o h

-- prototypes and scopes are there
pub record IsClosed (a : Arena) : Type 0 where
  pub prototypes : (o : ObjId) → IsTrue (has_object a o) → IsIn a (object_at a o).prototype
  pub scopes : (o : ObjId) → IsTrue (has_object a o) → IsIn a (object_at a o).scope

chain_of_beside : (a more : Arena) → IsClosed a → (n : ℕ) (o : Option ObjId) → IsIn a o → chain_of n (beside a more) o ≡ chain_of n a o
chain_of_beside a more c zero o h = refl
chain_of_beside a more c (suc n) None h = refl
chain_of_beside a more c (suc n) (Some o) h = ap (λ (os : List ObjId). o ∷ os) (
    ap (λ (x : Internals). chain_of n (beside a more) x.prototype) (object_beside a more o h)
    ∙ chain_of_beside a more c n (object_at a o).prototype (c.prototypes o h))

pub chain_beside : (a more : Arena) → IsClosed a → (o : ObjId) → IsTrue (has_object a o) → chain (beside a more) o ≡ chain a o
chain_beside a more c o h = ap (λ n. chain_of n (beside a more) (Some o)) (depth_beside a more o h) ∙ chain_of_beside a more c (depth_at a o) (Some o) h

pub prototypes_beside : (a more : Arena) → IsClosed a → (o : ObjId) → IsTrue (has_object a o) → prototypes (beside a more) o ≡ prototypes a o
prototypes_beside a more c o h =
    (λ i. chain_of (depth_beside a more o h i) (beside a more) (object_beside a more o h i).prototype)
    ∙ chain_of_beside a more c (depth_at a o) (object_at a o).prototype (c.prototypes o h)

-- all are there
abbrev pub AreIn : Arena → List ObjId → Type 0
AreIn a [] = Unit {0}
AreIn a (o ∷ os) = IsTrue (has_object a o) × AreIn a os

pub chain_of_there : (a : Arena) → IsClosed a → (n : ℕ) (o : Option ObjId) → IsIn a o → AreIn a (chain_of n a o)
chain_of_there a c zero o h = tt
chain_of_there a c (suc n) None h = tt
chain_of_there a c (suc n) (Some o) h = (h, chain_of_there a c n (object_at a o).prototype (c.prototypes o h))

up_there : (a : Arena) (scope : ObjId) (r : Option ObjId) → IsTrue (has_object a scope) → IsIn a r → IsTrue (has_object a (unwrap_or r scope))
up_there a scope None h k = h
up_there a scope (Some o) h k = k

scope_up_beside : (a more : Arena) → IsClosed a → (hops : ℕ) (scope : ObjId) → IsTrue (has_object a scope) → scope_up (beside a more) hops scope ≡ scope_up a hops scope
scope_up_beside a more c zero scope h = refl
scope_up_beside a more c (suc hops) scope h =
    ap (λ (x : Internals). scope_up (beside a more) hops (unwrap_or x.scope scope)) (object_beside a more scope h)
    ∙ scope_up_beside a more c hops (unwrap_or (object_at a scope).scope scope) (up_there a scope (object_at a scope).scope h (c.scopes scope h))

-- ---- a new object

module _ (a more : Arena) (owner : ℕ) (others : (o : ObjId) (e : Entry) → map.get more o ≡ Some e → ¬ (o.owner ≡ owner)) where
  none_more : (o : ObjId) (r : Option Entry) → map.get more o ≡ r → o.owner ≡ owner → r ≡ None
  none_more o None q e = refl
  none_more o (Some x) q e = absurd (others o x q e)

  kept_alike : (o : ObjId) (b : Bool) → (o.owner == owner) ≡ b → cond b (option_or (map.get a o) (map.get more o)) None ≡ cond b (map.get a o) None
  kept_alike o true h = or_none (map.get a o) (map.get more o) (none_more o (map.get more o) refl (equal_from_test o.owner owner h))
  kept_alike o false h = refl

  pub number_beside : next_number (beside a more) owner ≡ next_number a owner
  number_beside =
      let own = λ (o : ObjId). o.owner == owner in
      let alike : (q x : ObjId) → obj_cmp q x ≡ Ordering.Equal → own x ≡ own q = λ q x t. ap own (sym (obj_exact q x t)) in
      let same : map.retain_keys (beside a more) own ≡ map.retain_keys a own =
      map.same_map obj_total obj_exact (map.retain_keys (beside a more) own) (map.retain_keys a own) (λ q.
      map.get-retain_keys (beside a more) own q (alike q)
      ∙ ap (λ (r : Option Entry). cond (own q) r None) (get_beside a more q)
      ∙ kept_alike q (own q) refl
      ∙ sym (map.get-retain_keys a own q (alike q))) in
      λ i. record { owner = owner; serial = map.len (same i) }

  inserted_alike : (b : Bool) (e : Entry) (r s : Option Entry) → cond b (Some e) (option_or r s) ≡ option_or (cond b (Some e) r) s
  inserted_alike true e r s = refl
  inserted_alike false e r s = refl

  pub created_beside : (x : Internals) → IsIn a x.prototype → IsIn a x.scope → created (beside a more) owner x ≡ beside (created a owner x) more
  created_beside x p s =
      let deep : entry_of (beside a more) x ≡ entry_of a x = λ i. record { object = x; depth = max (depth_of_beside a more x.prototype p i) (depth_of_beside a more x.scope s i) + 1 } in
      let k = next_number a owner in
      (λ i. map.insert (beside a more) (number_beside i) (deep i))
      ∙ map.same_map obj_total obj_exact (map.insert (beside a more) k (entry_of a x)) (beside (created a owner x) more) (λ q.
      map.get-insert obj_total (beside a more) k (entry_of a x) q
      ∙ ap (cond (eq_by_cmp obj_cmp q k) (Some (entry_of a x))) (get_beside a more q)
      ∙ inserted_alike (eq_by_cmp obj_cmp q k) (entry_of a x) (map.get a q) (map.get more q)
      ∙ ap (λ (r : Option Entry). option_or r (map.get more q)) (sym (map.get-insert obj_total a k (entry_of a x) q))
      ∙ sym (get_beside (created a owner x) more q))

-- ---- the object of a world

module _ (a more : Arena) (w : WorldId) (none : (o : ObjId) (e : Entry) → map.get more o ≡ Some e → e.object.world ≡ Some w → ⊥) where
  world_of_more : (o : ObjId) (r : Option Entry) → map.get more o ≡ r → option_and_then (λ (e : Entry). e.object.world) r ≡ Some w → ⊥
  world_of_more o None q h = cc
  world_of_more o (Some e) q h = none o e q h

  world_either : (o : ObjId) (r : Option Entry) → option_and_then (λ (e : Entry). e.object.world) (option_or r (map.get more o)) ≡ Some w → option_and_then (λ (e : Entry). e.object.world) r ≡ Some w
  world_either o None h = absurd (world_of_more o (map.get more o) refl h)
  world_either o (Some e) h = h

  -- an object with the world is one of the arena
  world_at_beside : (o : ObjId) → world_at (beside a more) o ≡ Some w → world_at a o ≡ Some w
  world_at_beside o h = world_either o (map.get a o) (ap (option_and_then (λ (e : Entry). e.object.world)) (sym (get_beside a more o)) ∙ h)

  world_kept : (o : ObjId) (r : Option Entry) → option_and_then (λ (e : Entry). e.object.world) r ≡ Some w → option_and_then (λ (e : Entry). e.object.world) (option_or r (map.get more o)) ≡ Some w
  world_kept o None h = absurd (cc)
  world_kept o (Some e) h = h

  pub world_object_beside : ((p q : ObjId) → world_at a p ≡ Some w → world_at a q ≡ Some w → p ≡ q) → world_object (beside a more) w ≡ world_object a w
  world_object_beside one = by (world_object (beside a more) w) refl (world_object a w) refl
    where
      by : (r : Option ObjId) → world_object (beside a more) w ≡ r → (s : Option ObjId) → world_object a w ≡ s → r ≡ s
      by None q None k = refl
      by None q (Some o) k = absurd (no_object_no_world (beside a more) w o q (ap (option_and_then (λ (e : Entry). e.object.world)) (get_beside a more o) ∙ world_kept o (map.get a o) (object_has_world a w o k)))
      by (Some o) q None k = absurd (no_object_no_world a w o k (world_at_beside o (object_has_world (beside a more) w o q)))
      by (Some o) q (Some p) k = ap Some (one o p (world_at_beside o (object_has_world (beside a more) w o q)) (object_has_world a w p k))

-- ---- the arena of a configuration

module _ (t : Table) (objects : Objects) where
  pub there_in : (o : ObjId) → IsTrue (numbered.has objects o) → IsTrue (has_object (arena_in t objects) o)
  there_in o h = by (map.get objects o) h (object_found t objects o)
    where
      by : (r : Option Placed) → IsTrue (is_some r) → map.get (arena_in t objects) o ≡ option_map (entry_in t) r → IsTrue (has_object (arena_in t objects) o)
      by None h e = absurd (cc)
      by (Some x) h e = ap is_some e

  there_out : (o : ObjId) → IsTrue (has_object (arena_in t objects) o) → IsTrue (numbered.has objects o)
  there_out o h = by (map.get objects o) (object_found t objects o)
    where
      by : (r : Option Placed) → map.get (arena_in t objects) o ≡ option_map (entry_in t) r → IsTrue (is_some r)
      by None e = let gone : has_object (arena_in t objects) o ≡ false = ap is_some e in absurd (cc)
      by (Some x) e = refl

  is_in : (o : Option ObjId) → ((p : ObjId) → o ≡ Some p → IsTrue (numbered.has objects p)) → IsIn (arena_in t objects) o
  is_in None f = tt
  is_in (Some p) f = there_in p (f p refl)

  pub closed_in : IsArena objects → IsClosed (arena_in t objects)
  closed_in a = record {
    prototypes = λ o h. is_in (object_at (arena_in t objects) o).prototype (λ p e. (a.prototypes o p (sym (prototype_same t objects o) ∙ e)).0);
    scopes = λ o h. is_in (object_at (arena_in t objects) o).scope (λ p e. (a.scopes o p (sym (scope_same t objects o) ∙ e)).0);
  }

  -- an object that is there, with further ones beside it
  pub object_seen : (more : Arena) (o : ObjId) → IsTrue (numbered.has objects o) → object_at (beside (arena_in t objects) more) o ≡ object_at (arena_in t objects) o
  object_seen more o h = object_beside (arena_in t objects) more o (there_in o h)
