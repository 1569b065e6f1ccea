-- A part that was entered is the part alone.
use Rattle.std.proofs.Common.{◌≡◌, ℕ, ◌+◌, true, List, [], refl, sym, ap, ◌∙◌, subst, arith, IsTrue}
use Rattle.std.specs.Prelude.{map as each, is_some, unwrap_or}
use Rattle.wjs_base.specs.declared.ids.ObjId.{ObjId}
use Rattle.wjs_base.specs.Text.{Table}
use Rattle.wjs_store.specs.Meaning.{Meaning, Worlds}
use Rattle.wjs_arena.specs.Entries.{Objects, has}
use Rattle.wjs_by_content.specs.Objects.{Arena, Internals, created}
use Rattle.wjs_by_content.specs.Tables.{arena_in}
use Rattle.wjs_by_content.specs.Worlds.{worlds_in, told_by, KnowsWorlds}
use Rattle.wjs_meaning.specs.Builtins.{global_object, world_prototype}
use Rattle.wjs_meaning.specs.Trees.{Tree}
use Rattle.wjs_meaning.specs.WorldValues.{world_object_of}
use Rattle.wjs_model.specs.declared.config.Config.{Config}
use Rattle.wjs_model.specs.declared.loaded.LoadedProgram.{LoadedProgram as Program}
use Rattle.wjs_model.specs.Outside.{Outside, Admits, Knows, beside}
use Rattle.wjs_model.specs.Configurations.{rest, seen, tells, state_in}
use Rattle.wjs_model.specs.Units.{unit_in}
use Rattle.wjs_model.proofs.Beside.{there_in}
use Rattle.wjs_parts.specs.Entering.{Enters}
use Rattle.wjs_alone.specs.Alone.{world_of, without, before, part_run, alone}
use Rattle.wjs_tries.specs.Meant.{meant, beginning, Opens}
use Rattle.wjs_tries.specs.Views.{held_in, KnowsView}
use Rattle.wjs_tries.specs.Trying.{IsTrying}
use Rattle.wjs_tries.proofs.OneWorld.{one_in, one_known}
use Rattle.wjs_tries.proofs.Beside.{Others, others_in, made_alone}

module _ {S : Type 0} (meaning : S → Meaning) (texts : Table) (arena : Objects) (units : List Program) (F : Worlds) (q part budget : ℕ) (old new : Config S)
    (opens : Opens meaning texts arena units F q old) (e : Enters meaning part budget old new)
    (none : (o : ObjId) → IsTrue (has arena o) → ¬ (o.owner ≡ q)) (prototype : IsTrue (has arena world_prototype)) where
  store_is : meaning new.heap.store ≡ beginning F q
  store_is = e.store ∙ opens.store

  owner_is : new.owner ≡ q
  owner_is = e.stays.owner ∙ opens.owner_is

  world_is : new.world ≡ world_of q
  world_is = e.stays.world ∙ opens.world

  global_is : new.global ≡ global_object
  global_is = e.stays.global ∙ opens.global

  tells_is : tells meaning new ≡ true
  tells_is = ap (λ (m : Meaning). is_some m.told) store_is

  knows_all : (v : Outside) → Admits meaning new v → KnowsView v.texts v.view → Knows meaning new v
  knows_all v a k = subst (λ (m : Meaning). KnowsWorlds v.texts (m.full v.view)) (sym store_is) (one_known v.texts (world_of q) v.view k)

  module _ (t : Table) (v : Outside) (others : Others q v.more) where
    abbrev objects : Arena
    objects = beside (arena_in t new.heap.arena) v.more

    objects_is : objects ≡ created (without q objects) q (world_object_of (world_of q))
    objects_is =
        let a = arena_in t old.heap.arena in
        let x : Internals = world_object_of (world_of q) in
        let made : arena_in t new.heap.arena ≡ created a q x = e.objects t ∙ (λ i. created a (opens.owner_is i) (world_object_of (opens.world i))) in
        let old_none : (o : ObjId) → IsTrue (has old.heap.arena o)
        → ¬ (o.owner ≡ q) = λ o h. none o (subst (λ (m : Objects). IsTrue (has m o)) opens.arena_is h) in
        let there : IsTrue (has old.heap.arena world_prototype) = subst (λ (m : Objects). IsTrue (has m world_prototype)) (sym opens.arena_is) prototype in
        ap (λ m. beside m v.more) made
        ∙ sym (made_alone a v.more q x (others_in t old.heap.arena q old_none) others (there_in t old.heap.arena world_prototype there) tt)
        ∙ ap (λ m. created (without q (beside m v.more)) q x) (sym made)

    state_is : state_in meaning t v new ≡ before q (held_in v.texts v.view) objects
    state_is =
        let full = ap (λ (m : Meaning). worlds_in v.texts (m.full v.view)) store_is ∙ one_in v.texts (world_of q) v.view in
        let out = e.pending ∙ opens.pending in
        let done = ap (λ (m : Meaning). unwrap_or (told_by v.texts m.told) []) store_is in
        λ i. record { full = full i; arena = objects_is i; out = out i; done = done i }

    run_is : (n : ℕ) → rest meaning t v new n ≡ alone (each (unit_in t) new.units.items) part q (held_in v.texts v.view) objects n
    run_is n =
        let trees : List Tree = each (unit_in t) new.units.items in
        e.run t v n
        ∙ (λ i. seen (tells_is i) (part_run trees part (world_is i) (global_is i) (owner_is i) (state_is i) n))

  goes_alone : (v : Outside) → Admits meaning new v → KnowsView v.texts v.view → (n : ℕ)
      → alone (each (unit_in new.heap.texts) new.units.items) part new.owner (held_in v.texts v.view) (beside (arena_in new.heap.texts new.heap.arena) v.more)
      (0 + n) ≡ rest meaning new.heap.texts v new n
  goes_alone v a k n =
      let t = new.heap.texts in
      let others : Others q v.more = λ o x at is. a.further.apart o x at (is ∙ sym owner_is) in
      let same : 0 + n ≡ n = omega arith in
      (λ i. alone (each (unit_in t) new.units.items) part (owner_is i) (held_in v.texts v.view) (beside (arena_in t new.heap.arena) v.more) (same i))
      ∙ sym (run_is t v others n)

  pub enter_is_alone : IsTrying (each (unit_in new.heap.texts) new.units.items) part budget 0 (meant meaning new)
  enter_is_alone = record {
    budget_is = let l : new.left ≡ budget = e.left in omega (arith, l);
    trees_are = refl;
    global = global_is;
    world = world_is ∙ ap world_of (sym owner_is);
    knows = knows_all;
    alone = goes_alone;
  }
