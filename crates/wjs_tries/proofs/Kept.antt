-- What others do while a try rests changes nothing of what it has done and has still to do.
use Rattle.std.proofs.Common.{◌≡◌, ℕ, ◌+◌, ◌==◌, Bool, true, false, not, List, [], Option, None, Some, refl, sym, ap, ◌∙◌, subst, IsTrue}
use Rattle.std.specs.Prelude.{cond, is_some, unwrap_or}
use Rattle.std.specs.Option.{option_or, option_map}
use Rattle.std.specs.FinMap as map
use Rattle.std.proofs.lemmas.Bool.{eqb-false}
use Rattle.std.proofs.lemmas.Option.{same_Some}
use Rattle.wjs_base.specs.declared.ids.ObjId.{ObjId}
use Rattle.wjs_base.specs.declared.ids.WorldId.{WorldId}
use Rattle.wjs_base.specs.Text.{Table, Grows}
use Rattle.wjs_base.proofs.TextLaws.{Grows-trans}
use Rattle.wjs_store.specs.State.{has_world}
use Rattle.wjs_store.specs.Meaning.{Meaning, worlds}
use Rattle.wjs_arena.specs.Entries.{Entry as Placed, Objects, Keeps}
use Rattle.wjs_by_content.specs.Objects.{Arena, Entry}
use Rattle.wjs_by_content.specs.Tables.{arena_in, entry_in}
use Rattle.wjs_by_content.specs.Worlds.{worlds_in, told_by, KnowsWorlds}
use Rattle.wjs_by_content.proofs.ArenaGrowth.{arena_grows}
use Rattle.wjs_by_content.proofs.ArenaMaps.{object_found}
use Rattle.wjs_heap.specs.declared.heap.Heap.{Heap}
use Rattle.wjs_heap.specs.Means.{parts}
use Rattle.wjs_meaning.specs.Trees.{Tree}
use Rattle.wjs_model.specs.declared.config.Config.{Config}
use Rattle.wjs_model.specs.Outside.{Outside, IsFurther, Admits, Knows, beside}
use Rattle.wjs_model.specs.Configurations.{rest, rest_by, seen, run_in, frames_in, state_in}
use Rattle.wjs_model.specs.Soundness.{Sound}
use Rattle.wjs_model.specs.Texts.{KnowsUnit}
use Rattle.wjs_model.specs.Units.{unit_in}
use Rattle.wjs_model.proofs.Beside.{get_beside}
use Rattle.wjs_frames.proofs.Growing.{arena_known, left_alike}
use Rattle.wjs_frames.proofs.Lists.{each_alike}
use Rattle.wjs_frames.proofs.NodesGrow.{unit_grows}
use Rattle.wjs_alone.specs.Alone.{without, alone}
use Rattle.wjs_tries.specs.Meant.{itself}
use Rattle.wjs_tries.specs.Views.{held_in, KnowsView}
use Rattle.wjs_tries.specs.Trying.{IsTrying}
use Rattle.wjs_tries.proofs.Beside.{get_without, beside_others}

-- an object of two arenas, the first of which hasn't it, is of the second
either_of : (a more : Arena) (o : ObjId) (e : Entry) (P : Type 0) → (map.get a o ≡ Some e → P) → (map.get more o ≡ Some e → P)
    → map.get (beside a more) o ≡ Some e → P
either_of a more o e P first second at = by (map.get a o) refl
  where
    by : (r : Option Entry) → map.get a o ≡ r → P
    by None is = second (sym (get_beside a more o ∙ ap (λ (r : Option Entry). option_or r (map.get more o)) is) ∙ at)
    by (Some x) is = first (is ∙ sym (get_beside a more o ∙ ap (λ (r : Option Entry). option_or r (map.get more o)) is) ∙ at)

-- an object by content is one by number, of the same world
numbered_of : (t : Table) (objects : Objects) (o : ObjId) (e : Entry) (P : Type 0) → ((x : Placed) → map.get objects o ≡ Some x → e ≡ entry_in t x → P)
    → map.get (arena_in t objects) o ≡ Some e → P
numbered_of t objects o e P go at = by (map.get objects o) refl
  where
    by : (r : Option Placed) → map.get objects o ≡ r → P
    by None is = let h : None ≡ Some e = sym (object_found t objects o ∙ ap (option_map (entry_in t)) is) ∙ at in absurd (cc)
    by (Some x) is = go x is (same_Some e (entry_in t x) (sym at ∙ object_found t objects o ∙ ap (option_map (entry_in t)) is))

-- on another heap, whose store means the same under each view and admits the same, and to whose objects another owner's were added
module _ (trees : List Tree) (tree budget taken : ℕ) (old : Config Meaning) (heap : Heap Meaning) (q : ℕ) (sound : Sound itself old)
    (try : IsTrying trees tree budget taken old)
    (grows : Grows old.heap.texts heap.texts) (keeps : Keeps old.heap.arena heap.arena)
    (made : (o : ObjId) (e : Placed) → map.get old.heap.arena o ≡ None → map.get heap.arena o ≡ Some e → o.owner ≡ q) (differ : ¬ (old.owner ≡ q))
    (worlds_by : (o : ObjId) (e : Placed) (w : WorldId) → map.get heap.arena o ≡ Some e → e.object.world ≡ Some w → w.owner ≡ o.owner)
    (full : heap.store.full ≡ old.heap.store.full) (admits : heap.store.admits ≡ old.heap.store.admits) (told : heap.store.told ≡ old.heap.store.told)
    (same_worlds : (w : WorldId) → has_world (worlds heap.store) w ≡ has_world (worlds old.heap.store) w) where
  abbrev new : Config Meaning
  new = record old { heap = heap }

  -- the objects of others, which are further ones
  abbrev further : Outside → Arena
  further v = beside (without old.owner (arena_in heap.texts heap.arena)) v.more

  abbrev wider : Outside → Outside
  wider v = record v { more = further v }

  module _ (v : Outside) (a : Admits itself new v) where
    not_own : (o : ObjId) (e : Entry) → map.get (without old.owner (arena_in heap.texts heap.arena)) o ≡ Some e → ¬ (o.owner ≡ old.owner)
    not_own o e at is = by (o.owner == old.owner) refl
      where
        by : (b : Bool) → (o.owner == old.owner) ≡ b → ⊥
        by true h = let gone : None ≡ Some e = sym (get_without old.owner (arena_in heap.texts heap.arena) o
            ∙ ap (λ c. cond (not c) (map.get (arena_in heap.texts heap.arena) o) None) h) ∙ at in cc
        by false h = eqb-false o.owner old.owner h is

    found_there : (o : ObjId) (e : Entry) → map.get (without old.owner (arena_in heap.texts heap.arena)) o ≡ Some e
        → map.get (arena_in heap.texts heap.arena) o ≡ Some e
    found_there o e at = by (o.owner == old.owner) refl
      where
        by : (b : Bool) → (o.owner == old.owner) ≡ b → map.get (arena_in heap.texts heap.arena) o ≡ Some e
        by true h = let gone : None ≡ Some e = sym (get_without old.owner (arena_in heap.texts heap.arena) o
            ∙ ap (λ c. cond (not c) (map.get (arena_in heap.texts heap.arena) o) None) h) ∙ at in absurd (cc)
        by false h = sym (get_without old.owner (arena_in heap.texts heap.arena) o
            ∙ ap (λ c. cond (not c) (map.get (arena_in heap.texts heap.arena) o) None) h) ∙ at

    -- an object of another owner stands for a world of that owner, if it stands for one
    other_world : (o : ObjId) (e : Entry) (w : WorldId) → map.get (without old.owner (arena_in heap.texts heap.arena)) o ≡ Some e → e.object.world ≡ Some w
        → ¬ (w.owner ≡ old.owner)
    other_world o e w at is same = numbered_of heap.texts heap.arena o e ⊥ (λ x there by_number.
        not_own o e at (sym (worlds_by o x w there (sym (ap (λ (y : Entry). y.object.world) by_number) ∙ is)) ∙ same)) (found_there o e at)

    no_world : (w : WorldId) → ¬ (w.owner ≡ old.owner) → ¬ IsTrue (has_world (worlds old.heap.store) w)
    no_world w apart there = apart (sound.base.worlds_own w there)

    is_further : IsFurther old.heap.store old.owner (further v)
    is_further = record {
      apart = λ o e at. either_of (without old.owner (arena_in heap.texts heap.arena)) v.more o e (¬ (o.owner ≡ old.owner)) (not_own o e)
          (a.further.apart o e) at;
      worlds = λ o e w at is. either_of (without old.owner (arena_in heap.texts heap.arena)) v.more o e
          (¬ IsTrue (has_world (worlds old.heap.store) w) × ¬ (w.owner ≡ old.owner))
          (λ h. (no_world w (other_world o e w h is), other_world o e w h is))
          (λ h. let f = a.further.worlds o e w h is in (λ there. f.0 (same_worlds w ∙ there), f.1))
          at;
    }

    admits_wider : Admits itself old (wider v)
    admits_wider = record {
      view = ap (λ f. f v.view) (sym admits) ∙ a.view;
      further = is_further;
      texts = Grows-trans old.heap.texts heap.texts v.texts grows a.texts;
    }

    arena_same : arena_in heap.texts old.heap.arena ≡ arena_in old.heap.texts old.heap.arena
    arena_same = (arena_grows old.heap.texts heap.texts grows old.heap.arena (arena_known (parts itself old.heap) sound.base.heap)).1

    -- those that were there and the others' are those that are there
    objects_same : beside (arena_in old.heap.texts old.heap.arena) (further v) ≡ beside (arena_in heap.texts heap.arena) v.more
    objects_same = ap (λ m. beside m (further v)) (sym arena_same) ∙ beside_others heap.texts old.heap.arena heap.arena q keeps made old.owner differ v.more

    state_same : state_in itself heap.texts (wider v) old ≡ state_in itself heap.texts v new
    state_same =
        let worlds_same = ap (λ f. worlds_in v.texts (f v.view)) (sym full) in
        let arena = ap (λ m. beside m (further v)) arena_same ∙ objects_same in
        let done = ap (λ d. unwrap_or (told_by v.texts d) []) (sym told) in
        λ i. record { full = worlds_same i; arena = arena i; out = old.pending.items; done = done i }

    rest_same : (n : ℕ) → rest itself heap.texts (wider v) old n ≡ rest itself heap.texts v new n
    rest_same n = λ i. seen (is_some (sym told i)) (rest_by heap.texts old.state (run_in itself heap.texts old) (frames_in itself heap.texts old)
        (state_same i) n)

    knows_new : KnowsView v.texts v.view → Knows itself new v
    knows_new k = subst (λ f. KnowsWorlds v.texts (f v.view)) (sym full) (try.knows (wider v) admits_wider k)

    alone_new : KnowsView v.texts v.view → (n : ℕ) → alone trees tree old.owner (held_in v.texts v.view) (beside (arena_in heap.texts heap.arena) v.more)
        (taken + n) ≡ rest itself heap.texts v new n
    alone_new k n =
        ap (λ m. alone trees tree old.owner (held_in v.texts v.view) m (taken + n)) (sym objects_same)
        ∙ try.alone (wider v) admits_wider k n
        ∙ sym ((left_alike itself heap.texts (wider v) old sound grows).rest n)
        ∙ rest_same n

  pub others_keep_alone : IsTrying trees tree budget taken new
  others_keep_alone = record {
    budget_is = try.budget_is;
    trees_are = each_alike (unit_in heap.texts) (unit_in old.heap.texts) (KnowsUnit old.heap.texts)
        (unit_grows old.heap.texts heap.texts grows) old.units.items sound.base.units ∙ try.trees_are;
    global = try.global;
    world = try.world;
    knows = λ v a k. knows_new v a k;
    alone = λ v a k n. alone_new v a k n;
  }
