-- The worlds of values, and that a sprouted world is new.
use Rattle.std.proofs.Common.{◌≡◌, ℕ, ◌+◌, ◌<◌, ◌==◌, Bool, true, false, cond, [], ◌∷◌, Option, None, Some, refl, sym, ap, ◌∙◌, subst, arith, IsTrue}
use Rattle.std.specs.Option.{option_and_then}
use Rattle.std.specs.FinMap as map
use Rattle.wjs_base.specs.declared.ids.ObjId.{ObjId}
use Rattle.wjs_base.specs.declared.ids.WorldId.{WorldId}
use Rattle.wjs_base.specs.Text.{Table}
use Rattle.wjs_base.proofs.TextLaws.{Grows-refl}
use Rattle.wjs_store.specs.State.{State, Act as Action, has_world, count_of, next_id, same_world, sprout}
use Rattle.wjs_store.specs.Meaning.{Meaning, Worlds, IsSound, worlds}
use Rattle.wjs_store.proofs.Writes.{serial_below, world_is}
use Rattle.wjs_arena.specs.Entries.{Objects, Entry, world_of as world_by}
use Rattle.wjs_by_content.specs.Objects.{object_at}
use Rattle.wjs_by_content.specs.Names.{Slot, content}
use Rattle.wjs_by_content.specs.Values.{Value, Undefined, Null, Boolean, Number, String, Object}
use Rattle.wjs_by_content.specs.Plans.{Sprouted}
use Rattle.wjs_by_content.specs.Worlds.{worlds_in, KnowsWorlds}
use Rattle.wjs_heap.specs.declared.heap.Heap.{Heap}
use Rattle.wjs_heap.specs.Acts.{Acts}
use Rattle.wjs_heap.specs.Means.{parts}
use Rattle.wjs_props.proofs.Kept.{within_sprout}
use Rattle.wjs_meaning.specs.declared.trouble.Trouble.TheVariants.{NotAWorld}
use Rattle.wjs_meaning.specs.Deeds.{Env, Act, Do, Look, HasWorld}
use Rattle.wjs_meaning.specs.Errors.{throw}
use Rattle.wjs_meaning.specs.WorldValues.{world_found, world_of}
use Rattle.wjs_model.specs.declared.config.Config.{Config}
use Rattle.wjs_model.specs.Soundness.{HasWorld as WorldThere, Base}
use Rattle.wjs_model.specs.Standing.{FunctionStands}
use Rattle.wjs_model.specs.Apart.{IsNear}
use Rattle.wjs_heap_steps.specs.Worlds.{found_then, world_then}
use Rattle.wjs_heap_steps.proofs.NearPlans.{NearSlot}
use Rattle.wjs_heap_steps.proofs.Nearing.{has_named, one_by_sprout, before, before_near, act_slots, act_were}
use Rattle.wjs_heap_steps.proofs.Staying.{StaysApart}

-- goes on with a world, or throws
abbrev pub or_throw : Env → (WorldId → Act) → Option WorldId → Act
or_throw env go r = elim r [ Some w ↦ go w | None ↦ throw NotAWorld env ]

by_test : Env → (WorldId → Act) → WorldId → Bool → Act
by_test env go w b = elim b [ true ↦ or_throw env go (Some w) | false ↦ or_throw env go None ]

tested : (env : Env) (go : WorldId → Act) (w : WorldId) (b : Bool) → by_test env go w b ≡ elim b [ true ↦ go w | false ↦ throw NotAWorld env ]
unfolding by_test
tested env go w true = refl
tested env go w false = refl

found_line : (r : Option WorldId) (env : Env) (go : WorldId → Act) → found_then r (or_throw env go) ≡ world_found r env go
unfolding by_test
found_line None env go = refl
found_line (Some w) env go = λ i. Do (HasWorld w) (λ there. tested env go w there i)

pub world_line : (v : Value) (env : Env) (go : WorldId → Act) → world_then v (or_throw env go) ≡ world_of v env go
world_line (Object o) env go = λ i. Do Look (λ arena. found_line (object_at arena o).world env go i)
world_line Undefined env go = refl
world_line Null env go = refl
world_line (Boolean b) env go = refl
world_line (Number x) env go = refl
world_line (String t) env go = refl

-- the worlds have their owners under every table
counted : (t : Table) (owner : ℕ) (F : Worlds) → count_of owner (worlds_in t F) ≡ count_of owner F
counted t owner [] = refl
counted t owner (x ∷ F) = ap (λ n. cond (x.id.owner == owner) 1 0 + n) (counted t owner F)

module _ {S : Type 0} (meaning : S → Meaning) (old : Config S) (heap : Heap S) (b : Base meaning old) (sound : IsSound (meaning old.heap.store)) (later : IsSound (meaning heap.store)) where
  child_is : (w : WorldId) (strict : Bool) (child : WorldId) → Acts (sprout w old.owner strict) (Sprouted child) (parts meaning old.heap) (parts meaning heap) → child ≡ next_id (worlds (meaning old.heap.store)) old.owner
  child_is w strict child f =
      let own = (meaning old.heap.store).own in
      let t = heap.texts in
      let a = f.acts t (Grows-refl t) own (subst (λ v. IsTrue ((meaning heap.store).admits v)) f.own later.admits_own) (subst (λ x. KnowsWorlds x (worlds (meaning old.heap.store))) (sym f.texts) b.marks) in
      is_child child _ a.answers ∙ (λ i. record { owner = old.owner; serial = counted t old.owner (worlds (meaning old.heap.store)) i })
    where
      is_child : (a c : WorldId) → Sprouted a ≡ Sprouted c → a ≡ c
      is_child a c e = cc

  -- it was not there
  new_world : (child : WorldId) → child ≡ next_id (worlds (meaning old.heap.store)) old.owner → has_world (worlds (meaning old.heap.store)) child ≡ true → ⊥
  new_world child e h =
      let F = worlds (meaning old.heap.store) in
      let below : child.serial < count_of child.owner F = serial_below F child (sound.reached (meaning old.heap.store).own sound.admits_own) h in
      let serial : child.serial ≡ count_of old.owner F = ap (λ (i : WorldId). i.serial) e in
      let owner : count_of child.owner F ≡ count_of old.owner F = ap (λ (i : WorldId). count_of i.owner F) e in
      omega (arith, below, serial, owner)

  -- so no object stands for it
  pub child_fresh : (w : WorldId) (strict : Bool) (child : WorldId) → Acts (sprout w old.owner strict) (Sprouted child) (parts meaning old.heap) (parts meaning heap) → (o : ObjId) → world_by heap.arena o ≡ Some child → ⊥
  child_fresh w strict child f o h =
      let e = child_is w strict child f in
      by e (map.get old.heap.arena o) refl (ap (λ (m : Objects). world_by m o) (sym f.arena) ∙ h)
    where
      by : child ≡ next_id (worlds (meaning old.heap.store)) old.owner → (r : Option Entry) → map.get old.heap.arena o ≡ r → option_and_then (λ (x : Entry). x.object.world) r ≡ Some child → ⊥
      by e None q k = cc
      by e (Some x) q k = new_world child e (b.own_worlds o x child q k (ap (λ (i : WorldId). i.owner) e))

  -- the worlds have their owners, and what is kept apart is so still
  pub sprout_apart : (w : WorldId) (strict : Bool) (child : WorldId) → WorldThere meaning old w → Acts (sprout w old.owner strict) (Sprouted child) (parts meaning old.heap) (parts meaning heap) → StaysApart meaning old heap
  sprout_apart w strict child there f = record {
    worlds_own = λ i now. split i now (same_world (next_id F old.owner) i) refl;
    worlds_by = λ o e i h. b.worlds_by o e i (same o ∙ h);
    objects = λ o e h. b.near_objects o e (same o ∙ h);
    functions = λ o e h. subst (λ (m : Objects). FunctionStands old.units.items m e.object.code e.object.scope) (sym f.arena) (b.functions o e (same o ∙ h));
    slots = act_slots meaning old heap (λ _. later) b act (Sprouted child) f (within_sprout (NearSlot (IsNear old.apart.items)) F w old.owner strict here (before_near meaning old heap (λ _. later) b f.own));
  }
    where
      act : Action Slot Value
      act = sprout w old.owner strict

      F : State content
      F = worlds_in heap.texts (before meaning old heap (λ _. later) b)

      same : (o : ObjId) → map.get old.heap.arena o ≡ map.get heap.arena o
      same o = ap (λ (m : Objects). map.get m o) (sym f.arena)

      here : has_world F w ≡ true
      here = has_named heap.texts (before meaning old heap (λ _. later) b) w ∙ ap (λ v. has_world ((meaning old.heap.store).full v) w) f.own ∙ there

      -- the child is the owner's
      split : (i : WorldId) → has_world (worlds (meaning heap.store)) i ≡ true → (s : Bool) → same_world (next_id F old.owner) i ≡ s → i.owner ≡ old.owner
      split i now true s = ap (λ (j : WorldId). j.owner) (sym (world_is (next_id F old.owner) i s))
      split i now false s = b.worlds_own i (act_were meaning old heap (λ _. later) b act (Sprouted child) f i (one_by_sprout F w old.owner strict i s) now)
