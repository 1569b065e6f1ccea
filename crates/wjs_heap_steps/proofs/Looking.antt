-- Looks at objects by content and by number.
use Rattle.std.proofs.Common.{◌≡◌, ℕ, suc, ◌<◌, Bool, true, false, not, cond, ◌||◌, List, [], ◌∷◌, Option, None, Some, refl, sym, ap, ◌∙◌, subst, arith, IsTrue}
use Rattle.std.specs.Prelude.{IfSome, IfNone, is_some, unwrap_or}
use Rattle.std.specs.Option.{option_map, option_map_or, option_and_then}
use Rattle.std.specs.FinMap as map
use Rattle.wjs_base.specs.declared.ids.ObjId.{ObjId}
use Rattle.wjs_base.specs.declared.ids.WorldId.{WorldId}
use Rattle.wjs_base.specs.declared.values.Name.{Name}
use Rattle.wjs_base.specs.declared.values.Value.{Value}
use Rattle.wjs_base.specs.declared.values.Value.TheVariants as values
use Rattle.wjs_base.specs.Text.{Table}
use Rattle.wjs_arena.specs.declared.class.Class.TheVariants as class
use Rattle.wjs_arena.specs.declared.object.Object.{Object}
use Rattle.wjs_arena.specs.Entries.{Objects, Entry, IsArena, IsThere, has, prototype_of, world_of, depth_at, depth_of}
use Rattle.wjs_arena.specs.AtName.{same_name, at_name}
use Rattle.wjs_arena.specs.Chains.{chain_from, fixed}
use Rattle.wjs_arena.proofs.Walks.{there_next, less_deep, enough, chain_step, chain_none}
use Rattle.wjs_store.specs.Meaning.{Meaning}
use Rattle.wjs_by_content.specs.Renamed.{Holds}
use Rattle.wjs_by_content.specs.Objects.{Arena, Entry as Placed, object_of, object_at, scope_up, function_of, world_object, is_past, is_among, chain_of}
use Rattle.wjs_store.specs.State.{same_object}
use Rattle.wjs_by_content.specs.Tables.{value_in, object_in, entry_in, arena_in}
use Rattle.wjs_by_content.proofs.ArenaMaps.{object_found, prototype_same, depth_same, chain_of_same}
use Rattle.wjs_by_content.proofs.WorldObjects.{world_object_there, world_object_none}
use Rattle.wjs_store.specs.Meaning.{Meaning}
use Rattle.wjs_model.specs.Outside.{Finds}
use Rattle.wjs_heap_steps.proofs.Seeing.{object_found_as}
use Rattle.wjs_heap.specs.Heap.{Parts, HasNamed, IsHeap}
use Rattle.wjs_model.specs.declared.config.Config.{Config}
use Rattle.wjs_model.specs.Apart.{is_apart, NearValue, NamesNear}
use Rattle.wjs_model.specs.Soundness.{HasObject, HasWorld, Base}
use Rattle.wjs_model.proofs.Apart.{no_worlds}

-- an object that is there
placed : (r : Option Entry) (x : Object) → is_some r ≡ true → IfSome r (λ e. x ≡ e.object) → (t : Table) → option_map_or (λ (e : Placed). e.object) (option_map (entry_in t) r) (object_of class.Plain None) ≡ object_in t x
placed None x h e t = cc
placed (Some y) x h e t = ap (object_in t) (sym e)

pub object_is : (arena : Objects) (o : ObjId) (x : Object) → IsTrue (has arena o) → IfSome (map.get arena o) (λ e. x ≡ e.object) → (t : Table) → object_at (arena_in t arena) o ≡ object_in t x
object_is arena o x h e t = ap (λ (r : Option Placed). option_map_or (λ (y : Placed). y.object) r (object_of class.Plain None)) (object_found t arena o) ∙ placed (map.get arena o) x h e t

-- with further ones beside it
pub seen_is : {m : Meaning} {owner : ℕ} (objects : Objects) (o : ObjId) (x : Object) → IsTrue (has objects o) → IfSome (map.get objects o) (λ e. x ≡ e.object) → (t : Table) (arena : Arena) → Finds m owner objects t arena → object_at arena o ≡ object_in t x
seen_is objects o x h e t arena s = object_found_as objects t arena s o h ∙ object_is objects o x h e t

-- what it names is there
found_by : (r : Option Entry) (x : Object) (P : Object → Type 0) → is_some r ≡ true → IfSome r (λ e. x ≡ e.object) → ((e : Entry) → r ≡ Some e → P e.object) → P x
found_by None x P h e f = absurd (cc)
found_by (Some y) x P h e f = subst P (sym e) (f y refl)

pub named_there : (h : Parts) (o : ObjId) (x : Object) → IsHeap h → IsTrue (has h.arena o) → IfSome (map.get h.arena o) (λ e. x ≡ e.object) → HasNamed h.texts h.arena x
named_there h o x heap is e = found_by (map.get h.arena o) x (HasNamed h.texts h.arena) is e (heap.objects o)

-- and near, where the object is
pub near_there : {S : Type 0} (meaning : S → Meaning) (c : Config S) (o : ObjId) (x : Object) → Base meaning c → HasObject c o → IfSome (map.get c.heap.arena o) (λ e. x ≡ e.object) → NamesNear c.apart.items x
near_there meaning c o x b h e = found_by (map.get c.heap.arena o) x (NamesNear c.apart.items) h.0 e (λ y q. b.near_objects o y q h.1)

-- its prototype and its scope are there
link : (r : Option Entry) (x : Object) (f : Object → Option ObjId) → is_some r ≡ true → IfSome r (λ e. x ≡ e.object) → option_and_then (λ (e : Entry). f e.object) r ≡ f x
link None x f h e = cc
link (Some y) x f h e = ap f (sym e)

linked : (arena : Objects) (p : Option ObjId) → ((q : ObjId) → p ≡ Some q → IsTrue (has arena q)) → IfSome p (λ q. IsTrue (has arena q))
linked arena None f = tt
linked arena (Some q) f = f q refl

pub prototype_there : (arena : Objects) (o : ObjId) (x : Object) → IsArena arena → IsTrue (has arena o) → IfSome (map.get arena o) (λ e. x ≡ e.object) → IfSome x.prototype (λ q. IsTrue (has arena q))
prototype_there arena o x is h e = linked arena x.prototype (λ q k. (is.prototypes o q (link (map.get arena o) x (λ (y : Object). y.prototype) h e ∙ k)).0)

pub scope_there : (arena : Objects) (o : ObjId) (x : Object) → IsArena arena → IsTrue (has arena o) → IfSome (map.get arena o) (λ e. x ≡ e.object) → IfSome x.scope (λ q. IsTrue (has arena q))
scope_there arena o x is h e = linked arena x.scope (λ q k. (is.scopes o q (link (map.get arena o) x (λ (y : Object). y.scope) h e ∙ k)).0)

-- ---- what is found, or not

pub found_so : {A : Type 0} (r : Option A) (P : A → Type 0) → ((v : A) → r ≡ Some v → P v) → IfSome r P
found_so None P f = tt
found_so (Some v) P f = f v refl

-- a value that is no object is no function
pub no_function : (v : Value) (arena : Arena) (t : Table) → ((o : ObjId) → v ≡ values.Object o → ⊥) → function_of arena (value_in t v) ≡ None
no_function values.Undefined arena t h = refl
no_function values.Null arena t h = refl
no_function (values.Bool b) arena t h = refl
no_function (values.Number x) arena t h = refl
no_function (values.Text id) arena t h = refl
no_function (values.Object o) arena t h = absurd (h o refl)

-- the object of a world
pub world_is : (t : Table) (arena : Objects) (w : WorldId) (r : Option ObjId) → IsArena arena → IfSome r (λ o. world_of arena o ≡ Some w) → IfNone r ((o : ObjId) → world_of arena o ≡ Some w → ⊥) → world_object (arena_in t arena) w ≡ r
world_is t arena w None is f n = world_object_none t arena w n
world_is t arena w (Some o) is f n = world_object_there t arena w (λ a b. is.one_object a b w) o f

has_world_there : (r : Option Entry) (w : WorldId) → option_and_then (λ (e : Entry). e.object.world) r ≡ Some w → is_some r ≡ true
has_world_there None w h = absurd (cc)
has_world_there (Some e) w h = refl

world_there : (arena : Objects) (w : WorldId) (o : ObjId) → world_of arena o ≡ Some w → IsTrue (has arena o)
world_there arena w o h = has_world_there (map.get arena o) w h

-- ---- prototypes past an object

-- so far up: the rest of the prototypes decides
pub record Passing (arena : Objects) (p o : ObjId) (at : Option ObjId) : Type 0 where
  pub there : IsThere arena at
  pub rest : (t : Table) → is_past (arena_in t arena) p o ≡ is_among (chain_from (depth_of arena at) arena at) p

pub passing_starts : (arena : Objects) (p o : ObjId) (at : Option ObjId) → IsArena arena → IsTrue (has arena o) → ((t : Table) → (object_at (arena_in t arena) o).prototype ≡ at) → Passing arena p o at
passing_starts arena p o at is h e =
    let next : prototype_of arena o ≡ at = sym (prototype_same [] arena o) ∙ e [] in
    let there = there_next arena is o at next in
    let shallow = less_deep arena is o at h next in
    record {
      there = there;
      rest = λ t.
          ap (λ n. is_among (chain_of n (arena_in t arena) (object_at (arena_in t arena) o).prototype) p) (depth_same t arena o)
          ∙ ap (λ (q : Option ObjId). is_among (chain_of (depth_at arena o) (arena_in t arena) q) p) (e t)
          ∙ ap (λ os. is_among os p) (chain_of_same t arena (depth_at arena o) at)
          ∙ ap (λ os. is_among os p) (enough arena is (depth_at arena o) (depth_of arena at) at there (omega (arith, shallow)) (omega arith));
    }

-- the next one is met
step_is : (arena : Objects) (p o at : ObjId) (up : Option ObjId) → IsArena arena → Passing arena p o (Some at) → ((t : Table) → (object_at (arena_in t arena) at).prototype ≡ up) → (t : Table) → is_past (arena_in t arena) p o ≡ (same_object at p || is_among (chain_from (depth_of arena up) arena up) p)
step_is arena p o at up is h e t = h.rest t ∙ ap (λ os. is_among os p) (chain_step arena is at up h.there (sym (prototype_same [] arena at) ∙ e []))

pub passing_on : (arena : Objects) (p o at : ObjId) (up : Option ObjId) → IsArena arena → Passing arena p o (Some at) → ((t : Table) → (object_at (arena_in t arena) at).prototype ≡ up) → same_object at p ≡ false → Passing arena p o up
passing_on arena p o at up is h e other = record {
  there = there_next arena is at up (sym (prototype_same [] arena at) ∙ e []);
  rest = λ t. step_is arena p o at up is h e t ∙ ap (λ b. b || is_among (chain_from (depth_of arena up) arena up) p) other;
}

pub passing_found : (arena : Objects) (p o at : ObjId) → IsArena arena → Passing arena p o (Some at) → same_object at p ≡ true → (t : Table) → is_past (arena_in t arena) p o ≡ true
passing_found arena p o at is h same t =
    h.rest t
    ∙ ap (λ os. is_among os p) (chain_step arena is at (prototype_of arena at) h.there refl)
    ∙ ap (λ b. b || is_among (chain_from (depth_of arena (prototype_of arena at)) arena (prototype_of arena at)) p) same

pub passing_ends : (arena : Objects) (p o : ObjId) (at : Option ObjId) → Passing arena p o at → at ≡ None → (t : Table) → is_past (arena_in t arena) p o ≡ false
passing_ends arena p o at h none t = h.rest t ∙ ap (λ os. is_among os p) (chain_none arena at none)

pub passing_falls : (arena : Objects) (p o at : ObjId) (up : Option ObjId) → IsArena arena → Passing arena p o (Some at) → ((t : Table) → (object_at (arena_in t arena) at).prototype ≡ up) → depth_of arena up < depth_at arena at
passing_falls arena p o at up is h e = less_deep arena is at up h.there (sym (prototype_same [] arena at) ∙ e [])

-- ---- scopes outwards

pub scope_step : (arena : Arena) (hops left less : ℕ) (scope at out : ObjId) → left ≡ suc less → unwrap_or (object_at arena at).scope at ≡ out → scope_up arena hops scope ≡ scope_up arena left at → scope_up arena hops scope ≡ scope_up arena less out
scope_step arena hops left less scope at out l e h = h ∙ ap (λ n. scope_up arena n at) l ∙ ap (scope_up arena less) e

pub scope_end : (arena : Arena) (hops left : ℕ) (scope at : ObjId) → left ≡ 0 → scope_up arena hops scope ≡ scope_up arena left at → scope_up arena hops scope ≡ at
scope_end arena hops left scope at l h = h ∙ ap (λ n. scope_up arena n at) l

-- the scope outwards that was found, or none
pub out_of : (arena : Arena) (scope out : ObjId) (r : Option ObjId) → (object_at arena scope).scope ≡ r → unwrap_or r scope ≡ out → unwrap_or (object_at arena scope).scope scope ≡ out
out_of arena scope out r e h = ap (λ (q : Option ObjId). unwrap_or q scope) e ∙ h

-- no object that is kept apart stands for a world that is there
pub found_or : {S : Type 0} (meaning : S → Meaning) (c : Config S) (w : WorldId) (r : Option ObjId) → Base meaning c → HasWorld meaning c w → IfSome r (λ o. world_of c.heap.arena o ≡ Some w) → IfSome r (λ o. HasObject c o)
found_or meaning c w None b h f = tt
found_or meaning c w (Some o) b h f = (world_there c.heap.arena w o f, by (is_apart c.apart.items o.owner) refl)
  where
    no_entry : (r : Option Entry) → map.get c.heap.arena o ≡ r → option_and_then (λ (e : Entry). e.object.world) r ≡ Some w → is_apart c.apart.items o.owner ≡ true → ⊥
    no_entry None q k a = cc
    no_entry (Some e) q k a = no_worlds meaning c b o e w q a k h

    by : (a : Bool) → is_apart c.apart.items o.owner ≡ a → IsTrue (not a)
    by true a = absurd (no_entry (map.get c.heap.arena o) refl f a)
    by false a = refl

-- a fixed value of a near object is near
pub fixed_is_near : {S : Type 0} (meaning : S → Meaning) (c : Config S) (o : ObjId) (name : Name) (v : Value) → Base meaning c → HasObject c o → fixed c.heap.arena o name ≡ Some v → NearValue c.apart.items v
fixed_is_near meaning c o name v b h = by (map.get c.heap.arena o) refl
  where
    split : (u : Value) → NearValue c.apart.items u → (s : Bool) (rest : Option Value) → (rest ≡ Some v → NearValue c.apart.items v) → cond s (Some u) rest ≡ Some v → NearValue c.apart.items v
    split u k true rest more q = let same : u ≡ v = cc in subst (NearValue c.apart.items) same k
    split u k false rest more q = more q

    among : (xs : List (Name × Value)) → Holds (λ e. NearValue c.apart.items e.1) xs → at_name xs name ≡ Some v → NearValue c.apart.items v
    among [] k e = absurd (cc)
    among (x ∷ xs) k e = split x.1 k.0 (same_name x.0 name) (at_name xs name) (among xs k.1) e

    by : (r : Option Entry) → map.get c.heap.arena o ≡ r → option_and_then (λ (e : Entry). at_name e.object.fixed name) r ≡ Some v → NearValue c.apart.items v
    by None q e = absurd (cc)
    by (Some x) q e = among x.object.fixed (b.near_objects o x q h.1).fixed e
