-- After each kind of deed what was there is there.
use Rattle.std.proofs.Common.{◌≡◌, ℕ, Vec, Global, Bool, true, false, cond, Some, refl, sym, ap, ◌∙◌, subst, IsTrue}
use Rattle.std.specs.Prelude.{not}
use Rattle.std.specs.Option.{option_and_then}
use Rattle.std.specs.FinMap as map
use Rattle.std.proofs.lemmas.List.Elements.{All-weaker}
use Rattle.std.specs.Ordering.{eq_by_cmp}
use Rattle.std.specs.Cmp.{Equal-is}
use Rattle.wjs_base.specs.declared.ids.ObjId.{ObjId}
use Rattle.wjs_base.specs.declared.ids.WorldId.{WorldId}
use Rattle.wjs_base.specs.Order.{obj_cmp, obj_total, obj_exact}
use Rattle.wjs_base.specs.Text.{Table, IsTable, Grows}
use Rattle.wjs_base.proofs.TextLaws.{Grows-refl, Grows-trans}
use Rattle.wjs_store.specs.State.{Act as Action, commit, has_world}
use Rattle.wjs_store.specs.Meaning.{Meaning, worlds}
use Rattle.wjs_arena.specs.declared.object.Object.{Object}
use Rattle.wjs_arena.specs.Entries.{Objects, Entry, Keeps, next_number, entry_over, created, scope_of}
use Rattle.wjs_arena.proofs.Owners.{key_itself}
use Rattle.wjs_by_content.specs.Names.{Slot}
use Rattle.wjs_by_content.specs.Values.{Value}
use Rattle.wjs_by_content.specs.Plans.{Plan, Heard}
use Rattle.wjs_by_content.specs.Worlds.{KnowsWorlds}
use Rattle.wjs_by_content.proofs.Growth.{worlds_grow}
use Rattle.wjs_heap.specs.declared.heap.Heap.{Heap}
use Rattle.wjs_heap.specs.Acts.{Acts, Creates}
use Rattle.wjs_heap.specs.Heap.{Performs, KnowsTold}
use Rattle.wjs_heap.specs.Means.{parts}
use Rattle.wjs_heap.proofs.Growing.{heap_grows}
use Rattle.wjs_heap.proofs.Told.{told_stays}
use Rattle.wjs_model.specs.declared.config.Config.{Config}
use Rattle.wjs_model.specs.Soundness.{HasObject, HasWorld, IsStacked, Base}
use Rattle.wjs_model.specs.Apart.{is_apart, IsNear, NearSlots, NamesNear}
use Rattle.wjs_model.specs.Standing.{FunctionStands}
use Rattle.wjs_model.proofs.Standing.{code_kept}
use Rattle.wjs_frames.specs.Following.{Later}
use Rattle.wjs_heap_steps.proofs.Staying.{StaysApart, later_on, later_there}
use Rattle.wjs_heap_steps.proofs.Nearing.{Left}

module _ {S : Type 0} (meaning : S → Meaning) where
  pub later_same : (old : Config S) → Base meaning old → Later meaning old old
  later_same old b = later_there old old (Grows-refl old.heap.texts) (λ o h. h) meaning (λ w h. h) (λ o e h. h) refl refl refl refl b

  pub later_twice : (old mid new : Config S) → Later meaning old mid → Later meaning mid new → Later meaning old new
  later_twice old mid new f s = record {
    state = s.state ∙ f.state;
    units = s.units ∙ f.units;
    global = s.global ∙ f.global;
    owner = s.owner ∙ f.owner;
    base = s.base;
    frames = λ x h. s.frames x (f.frames x h);
    values = λ x h. s.values x (f.values x h);
    objects = λ x h. s.objects x (f.objects x h);
    names = λ x h. s.names x (f.names x h);
    references = λ x h. s.references x (f.references x h);
    completions = λ x h. s.completions x (f.completions x h);
    items = λ x h. s.items x (f.items x h);
    worlds = λ x h. s.worlds x (f.worlds x h);
    arena = λ o e h. s.arena o e (f.arena o e h);
    texts = Grows-trans old.heap.texts mid.heap.texts new.heap.texts f.texts s.texts;
  }

  -- the objects stay
  same_objects : (old new : Objects) → new ≡ old → Keeps old new
  same_objects old new e o x h = ap (λ (m : Objects). map.get m o) e ∙ h

  -- where the objects stay, and no world is new
  stays_apart : (old : Config S) (heap : Heap S) → Base meaning old → heap.arena ≡ old.heap.arena → Left meaning old heap → StaysApart meaning old heap
  stays_apart old heap b arena left = record {
    worlds_own = λ w there. b.worlds_own w (left.were w there);
    worlds_by = λ o e w h. b.worlds_by o e w (ap (λ (m : Objects). map.get m o) (sym arena) ∙ h);
    objects = λ o e h. b.near_objects o e (ap (λ (m : Objects). map.get m o) (sym arena) ∙ h);
    slots = left.slots;
    functions = λ o e h. subst (λ (m : Objects). FunctionStands old.units.items m e.object.code e.object.scope) (sym arena) (b.functions o e (ap (λ (m : Objects). map.get m o) (sym arena) ∙ h));
  }

  pub later_plan : {A : Type 0} (w : WorldId) (plan : Table → Plan A) (answer : Table → A) (old : Config S) (heap : Heap S) → Base meaning old → Performs w plan answer (parts meaning old.heap) (parts meaning heap) → Left meaning old heap → Later meaning old (record old { heap = heap })
  later_plan w plan answer old heap b p left = later_on meaning old heap p.texts (same_objects old.heap.arena heap.arena p.arena) p.still_there b p.heap (p.marks b.marks) (p.told b.marks b.told) left.works
      (λ o e v h k l. p.still_there v (b.own_worlds o e v (ap (λ (m : Objects). map.get m o) (sym p.arena) ∙ h) k l)) (stays_apart old heap b p.arena left)

  pub later_acted : (act : Action Slot Value) (answer : Heard) (old : Config S) (heap : Heap S) → Base meaning old → Acts act answer (parts meaning old.heap) (parts meaning heap) → StaysApart meaning old heap → Later meaning old (record old { heap = heap })
  later_acted act answer old heap b p apart = later_on meaning old heap (subst (Grows old.heap.texts) (sym p.texts) (Grows-refl old.heap.texts)) (same_objects old.heap.arena heap.arena p.arena) p.still_there b p.heap (p.marks b.marks) (p.told b.marks b.told) (ap not p.spent ∙ b.works)
      (λ o e v h k l. p.still_there v (b.own_worlds o e v (ap (λ (m : Objects). map.get m o) (sym p.arena) ∙ h) k l)) apart

  pub later_committed : (w : WorldId) (answer : Heard) (old : Config S) (heap : Heap S) → Base meaning old → Acts (commit w) answer (parts meaning old.heap) (parts meaning heap) → Left meaning old heap → Later meaning old (record old { heap = heap })
  later_committed w answer old heap b p left = later_acted (commit w) answer old heap b p (stays_apart old heap b p.arena left)

  -- more texts
  pub later_texts : (old : Config S) (texts : Table) → Base meaning old → IsTable texts → Grows old.heap.texts texts → Later meaning old (record old { heap = record old.heap { texts = texts } })
  later_texts old texts b table g = later_on meaning old (record old.heap { texts = texts }) g (λ o e h. h) (λ w h. h) b (heap_grows (parts meaning old.heap) texts table g b.heap) (worlds_grow old.heap.texts texts g (worlds (meaning old.heap.store)) b.marks).0 (told_stays old.heap.texts texts g (meaning old.heap.store).told b.told) b.works b.own_worlds
      (record { worlds_own = b.worlds_own; worlds_by = b.worlds_by; objects = b.near_objects; slots = b.near_slots; functions = b.functions })

  -- other output
  pub base_out : (old : Config S) (pending : Vec ℕ Global) → Base meaning old → Base meaning (record old { pending = pending })
  base_out old pending b = record {
    heap = b.heap;
    works = b.works;
    global = b.global;
    world = b.world;
    builtins = b.builtins;
    units = b.units;
    places = b.places;
    functions = b.functions;
    worlds_own = b.worlds_own;
    worlds_by = b.worlds_by;
    own_worlds = b.own_worlds;
    own = b.own;
    near_objects = b.near_objects;
    near_slots = b.near_slots;
    frames = All-weaker (IsStacked meaning old) (IsStacked meaning (record old { pending = pending }))
        (λ f h. record {
          there = record { scope = h.there.scope; this = h.there.this; world = h.there.world; held = h.there.held; stands = h.there.stands };
          phase = h.phase;
        }) old.frames b.frames;
    marks = b.marks;
    told = b.told;
  }

  pub later_out : (old : Config S) (pending : Vec ℕ Global) → Base meaning old → Later meaning old (record old { pending = pending })
  later_out old pending b = later_there old (record old { pending = pending }) (Grows-refl old.heap.texts) (λ o h. h) meaning (λ w h. h) (λ o e h. h) refl refl refl refl (base_out old pending b)

  -- one object more, whose world is there
  pub later_create : (x : Object) (id : ObjId) (old : Config S) (heap : Heap S) → Base meaning old → Creates old.owner x id (parts meaning old.heap) (parts meaning heap) → NamesNear old.apart.items x → FunctionStands old.units.items old.heap.arena x.code x.scope → ((w : WorldId) → x.world ≡ Some w → HasWorld meaning old w) → Later meaning old (record old { heap = heap })
  later_create x id old heap b c near code own = later_on meaning old heap texts c.keeps (λ w h. subst (λ (m : Meaning). IsTrue (has_world (worlds m) w)) (sym c.store) h) b c.heap marks told (subst (λ (m : Meaning). IsTrue (not m.spent)) (sym c.store) b.works) worlds_there apart
    where
      texts : Grows old.heap.texts heap.texts
      texts = subst (Grows old.heap.texts) (sym c.texts) (Grows-refl old.heap.texts)

      marks : KnowsWorlds heap.texts (worlds (meaning heap.store))
      marks = subst (λ (m : Meaning). KnowsWorlds heap.texts (worlds m)) (sym c.store) (subst (λ t. KnowsWorlds t (worlds (meaning old.heap.store))) (sym c.texts) b.marks)

      told : KnowsTold heap.texts (meaning heap.store).told
      told = subst (λ (m : Meaning). KnowsTold heap.texts m.told) (sym c.store) (subst (λ t. KnowsTold t (meaning old.heap.store).told) (sym c.texts) b.told)

      world_there : (o : ObjId) (e : Entry) (w : WorldId) (same : Bool) → cond same (Some (entry_over old.heap.arena x)) (map.get old.heap.arena o) ≡ Some e → e.object.world ≡ Some w → w.owner ≡ old.owner → HasWorld meaning old w
      world_there o e w true q k l = let is : entry_over old.heap.arena x ≡ e = cc in own w (ap (λ (z : Entry). z.object.world) is ∙ k)
      world_there o e w false q k l = b.own_worlds o e w q k l

      -- where it is found
      found : (o : ObjId) (e : Entry) → map.get heap.arena o ≡ Some e → cond (eq_by_cmp obj_cmp o (next_number old.heap.arena old.owner)) (Some (entry_over old.heap.arena x)) (map.get old.heap.arena o) ≡ Some e
      found o e h = sym (map.get-insert obj_total old.heap.arena (next_number old.heap.arena old.owner) (entry_over old.heap.arena x) o) ∙ ap (λ (m : Objects). map.get m o) (sym c.arena) ∙ h

      near_object : (o : ObjId) (e : Entry) (same : Bool) → cond same (Some (entry_over old.heap.arena x)) (map.get old.heap.arena o) ≡ Some e → IsNear old.apart.items o → NamesNear old.apart.items e.object
      near_object o e true q h = let is : entry_over old.heap.arena x ≡ e = cc in subst (λ (z : Entry). NamesNear old.apart.items z.object) is near
      near_object o e false q h = b.near_objects o e q h

      function : (o : ObjId) (e : Entry) (same : Bool) → cond same (Some (entry_over old.heap.arena x)) (map.get old.heap.arena o) ≡ Some e → FunctionStands old.units.items heap.arena e.object.code e.object.scope
      function o e true q = let is : entry_over old.heap.arena x ≡ e = cc in subst (λ (z : Entry). FunctionStands old.units.items heap.arena z.object.code z.object.scope) is (code_kept old.heap.arena heap.arena c.keeps old.units.items x.code x.scope code)
      function o e false q = code_kept old.heap.arena heap.arena c.keeps old.units.items e.object.code e.object.scope (b.functions o e q)

      -- the new object is the owner's, and so is its world, since it is there
      world_by : (o : ObjId) (e : Entry) (w : WorldId) (same : Bool) → eq_by_cmp obj_cmp o (next_number old.heap.arena old.owner) ≡ same → cond same (Some (entry_over old.heap.arena x)) (map.get old.heap.arena o) ≡ Some e → e.object.world ≡ Some w → w.owner ≡ o.owner
      world_by o e w true at q k =
          let is : entry_over old.heap.arena x ≡ e = cc in
          let owner : o.owner ≡ old.owner = ap (λ (p : ObjId). p.owner) (obj_exact o (next_number old.heap.arena old.owner) ((Equal-is (obj_cmp o (next_number old.heap.arena old.owner))).0 at)) in
          b.worlds_own w (own w (ap (λ (z : Entry). z.object.world) is ∙ k)) ∙ sym owner
      world_by o e w false at q k = b.worlds_by o e w q k

      apart : StaysApart meaning old heap
      apart = record {
        worlds_own = λ w there. b.worlds_own w (subst (λ (m : Meaning). IsTrue (has_world (worlds m) w)) c.store there);
        worlds_by = λ o e w h. world_by o e w (eq_by_cmp obj_cmp o (next_number old.heap.arena old.owner)) refl (found o e h);
        objects = λ o e h. near_object o e (eq_by_cmp obj_cmp o (next_number old.heap.arena old.owner)) (found o e h);
        slots = subst (λ (m : Meaning). NearSlots old.apart.items (worlds m)) (sym c.store) b.near_slots;
        functions = λ o e h. function o e (eq_by_cmp obj_cmp o (next_number old.heap.arena old.owner)) (found o e h);
      }

      worlds_there : (o : ObjId) (e : Entry) (w : WorldId) → map.get heap.arena o ≡ Some e → e.object.world ≡ Some w → w.owner ≡ old.owner → IsTrue (has_world (worlds (meaning heap.store)) w)
      worlds_there o e w h k l =
          subst (λ (m : Meaning). IsTrue (has_world (worlds m) w)) (sym c.store) (world_there o e w (eq_by_cmp obj_cmp o (next_number old.heap.arena old.owner)) (found o e h) k l)

  -- the scope outwards of the new object, and its world
  pub created_scope : (x : Object) (id : ObjId) (old : Config S) (heap : Heap S) → Creates old.owner x id (parts meaning old.heap) (parts meaning heap) → scope_of heap.arena id ≡ x.scope
  created_scope x id old heap c =
      ap (λ (m : Objects). scope_of m id) c.arena ∙ ap (scope_of (created old.heap.arena old.owner x)) c.number
      ∙ ap (option_and_then (λ (e : Entry). e.object.scope))
      (map.get-insert obj_total old.heap.arena (next_number old.heap.arena old.owner) (entry_over old.heap.arena x) (next_number old.heap.arena old.owner)
      ∙ ap (λ b. cond b (Some (entry_over old.heap.arena x)) (map.get old.heap.arena (next_number old.heap.arena old.owner))) (key_itself (next_number old.heap.arena old.owner)))

  -- the new object is the owner's
  pub created_there : (x : Object) (id : ObjId) (old : Config S) (heap : Heap S) → Base meaning old → Creates old.owner x id (parts meaning old.heap) (parts meaning heap) → HasObject (record old { heap = heap }) id
  created_there x id old heap b c = (c.there, subst (λ n. IsTrue (not (is_apart old.apart.items n))) (sym (ap (λ (o : ObjId). o.owner) c.number)) b.own)
