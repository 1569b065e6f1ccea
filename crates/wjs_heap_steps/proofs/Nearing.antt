-- What a deed finds and leaves is near.
use Rattle.std.proofs.Common.{◌≡◌, ℕ, Bool, true, false, cond, not, List, [], ◌∷◌, Option, None, Some, refl, sym, ap, ◌∙◌, subst, IsTrue}
use Rattle.std.specs.Prelude.{is_some, is_none}
use Rattle.std.specs.Option.{option_map, option_map_or, option_and_then}
use Rattle.std.specs.FinMap as map
use Rattle.wjs_base.specs.declared.ids.ObjId.{ObjId}
use Rattle.wjs_base.specs.declared.ids.WorldId.{WorldId}
use Rattle.wjs_base.specs.declared.values.Name.{Name}
use Rattle.wjs_base.specs.declared.values.Value.{Value as NumberedValue}
use Rattle.wjs_base.specs.Text.{Table}
use Rattle.wjs_base.proofs.TextLaws.{Grows-refl}
use Rattle.wjs_store.specs.State.{State, World, Act as Action, commit, read_in, list_in, same_world, content_at, has_world, find_world, after, after_read, after_write, after_list, after_sprout, after_commit, next_id, child_of, with_parent, fault_in, settle}
use Rattle.wjs_store.specs.Meaning.{Meaning, Worlds, IsSound, worlds}
use Rattle.wjs_store.proofs.Writes.{has_at, has_after_write, has_settle}
use Rattle.wjs_store.proofs.Marks.{marks_read, marks_list}
use Rattle.wjs_by_content.specs.Renamed.{Holds, named_world}
use Rattle.wjs_arena.specs.declared.class.Class.TheVariants as class
use Rattle.wjs_arena.specs.Entries.{Entry}
use Rattle.wjs_by_content.specs.Values.{Text, Value, same_text}
use Rattle.wjs_by_content.specs.Names.{Slot, content}
use Rattle.wjs_by_content.specs.Objects.{Entry as Placed, object_of, at_name}
use Rattle.wjs_by_content.specs.Tables.{name_in, value_in, under_in, entry_in, arena_in}
use Rattle.wjs_by_content.specs.Telling.{names_of}
use Rattle.wjs_by_content.specs.Plans.{Plan, Gives, Reads, Writes, Lists, Heard, worlds_after, names_at}
use Rattle.wjs_by_content.specs.Worlds.{worlds_in, KnowsWorlds}
use Rattle.wjs_by_content.proofs.ArenaMaps.{object_found, prototype_same}
use Rattle.wjs_by_content.proofs.Growth.{worlds_grow}
use Rattle.wjs_heap.specs.declared.heap.Heap.{Heap}
use Rattle.wjs_heap.specs.Acts.{Acts}
use Rattle.wjs_heap.specs.Heap.{IsHeap, Performs}
use Rattle.wjs_heap.specs.Means.{parts}
use Rattle.wjs_props.proofs.Actions.{slot_knows}
use Rattle.wjs_props.proofs.Kept.{Within, within_commit}
use Rattle.wjs_model.specs.declared.config.Config.{Config}
use Rattle.wjs_model.specs.Apart.{IsNear, NearValue, NearIf, NearSlots}
use Rattle.wjs_model.specs.Soundness.{Base}
use Rattle.wjs_heap_steps.proofs.NearPlans.{Near, NearSlot, Reaches, reached, Closed}
use Rattle.wjs_heap_steps.proofs.NearWorlds.{find_named, values_near, slots_named, slots_numbered}

-- ---- no world is new

named_some : {A B : Type 0} (f : A → B) (o : Option A) → is_some (option_map f o) ≡ is_some o
named_some f None = refl
named_some f (Some x) = refl

pub has_named : (t : Table) (F : Worlds) (i : WorldId) → has_world (worlds_in t F) i ≡ has_world F i
has_named t F i = ap is_some (find_named t F i) ∙ named_some (named_world (names_of t)) (find_world F i)

-- a plan makes none
none_made : {A : Type 0} (p : Plan A) (w : WorldId) (F : State content) (i : WorldId) → has_world (worlds_after p w F) i ≡ has_world F i
unfolding after_read after_list
none_made (Gives a) w F i = refl
none_made (Reads s go) w F i = none_made (go (content_at F w s)) w (after_read F w s) i ∙ has_at w (read_in s) (λ x. (marks_read s x).id) F i
none_made (Writes s c go) w F i = none_made go w (after_write F w s c) i ∙ has_after_write F w s c i
none_made (Lists o go) w F i = none_made (go (names_at F w o)) w (after_list F w o) i ∙ has_at w (list_in o) (λ x. (marks_list o x).id) F i

-- nor does a commit
none_by_commit : (F : State content) (w i : WorldId) → has_world (after_commit F w) i ≡ true → has_world F i ≡ true
unfolding after_commit
none_by_commit F w i = by (with_parent F w)
  where
    checked : (b : Bool) (x : World content) (p : WorldId) → has_world (cond b (settle x p F) F) i ≡ true → has_world F i ≡ true
    checked true x p h = sym (has_settle x p F i) ∙ h
    checked false x p h = h

    by : (r : Option (World content × World content)) → has_world (option_map_or (λ (e : World content × World content). cond (is_none (fault_in e.0 e.1)) (settle e.0 e.1.id F) F) r F) i ≡ true → has_world F i ≡ true
    by None h = h
    by (Some e) h = checked (is_none (fault_in e.0 e.1)) e.0 e.1.id h

-- and a sprout makes its child alone
pub one_by_sprout : (F : State content) (w : WorldId) (owner : ℕ) (strict : Bool) (i : WorldId) → same_world (next_id F owner) i ≡ false → has_world (after_sprout F w owner strict) i ≡ true → has_world F i ≡ true
unfolding after_sprout find_world
one_by_sprout F w owner strict i other = by (find_world F w)
  where
    by : (r : Option (World content)) → has_world (option_map_or (λ x. child_of x (next_id F owner) strict ∷ F) r F) i ≡ true → has_world F i ≡ true
    by None h = h
    by (Some x) h = sym (ap (λ b. is_some (cond b (Some (child_of x (next_id F owner) strict)) (find_world F i))) other) ∙ h

-- ---- what near objects name, by content

module _ {S : Type 0} (meaning : S → Meaning) (c : Config S) (base : Base meaning c) (t : Table) where
  abbrev near : ObjId → Type 0
  near = IsNear c.apart.items

  if_some : (r : Option ObjId) (p : ObjId) → NearIf c.apart.items r → r ≡ Some p → near p
  if_some None p h e = absurd (cc)
  if_some (Some q) p h e = let same : q ≡ p = cc in subst near same h

  under_near : (xs : List (Name × NumberedValue)) (name : Text) (v : Value) → Holds (λ e. NearValue c.apart.items e.1) xs → at_name (under_in t (value_in t) xs) name ≡ Some v → Near near v
  under_near [] name v h e = absurd (cc)
  under_near (x ∷ xs) name v h e = by (same_text (name_in t x.0) name) (at_name (under_in t (value_in t) xs) name) (under_near xs name v h.1) e
    where
      by : (b : Bool) (rest : Option Value) → (rest ≡ Some v → Near near v) → cond b (Some (value_in t x.1)) rest ≡ Some v → Near near v
      by true rest more k = let same : value_in t x.1 ≡ v = cc in subst (Near near) same (values_near c.apart.items t x.1 h.0)
      by false rest more k = more k

  pub closed : Closed near (arena_in t c.heap.arena)
  closed = record {
    prototypes = λ o p h e. by_prototype o p (map.get c.heap.arena o) refl h (sym (prototype_same t c.heap.arena o) ∙ e);
    fixed_values = λ o name v h e. by_fixed o name v (map.get c.heap.arena o) refl h
        (sym (ap (λ (r : Option Placed). at_name (option_map_or (λ (x : Placed). x.object) r (object_of class.Plain None)).fixed name) (object_found t c.heap.arena o)) ∙ e);
  }
    where
      by_prototype : (o p : ObjId) (r : Option Entry) → map.get c.heap.arena o ≡ r → near o → option_and_then (λ (e : Entry). e.object.prototype) r ≡ Some p → near p
      by_prototype o p None q h e = absurd (cc)
      by_prototype o p (Some x) q h e = if_some x.object.prototype p (base.near_objects o x q h).prototype e

      by_fixed : (o : ObjId) (name : Text) (v : Value) (r : Option Entry) → map.get c.heap.arena o ≡ r → near o → at_name (option_map_or (λ (x : Placed). x.object) (option_map (entry_in t) r) (object_of class.Plain None)).fixed name ≡ Some v → Near near v
      by_fixed o name v None q h e = absurd (cc)
      by_fixed o name v (Some x) q h e = under_near x.object.fixed name v (base.near_objects o x q h).fixed e

-- ---- what is left by a deed

-- the store works, its present slots name only what is near, and no world of it is new
module _ {S : Type 0} (meaning : S → Meaning) where
  pub record Left (old : Config S) (heap : Heap S) : Type 0 where
    pub works : IsTrue (not (meaning heap.store).spent)
    pub slots : NearSlots old.apart.items (worlds (meaning heap.store))
    pub were : (i : WorldId) → has_world (worlds (meaning heap.store)) i ≡ true → has_world (worlds (meaning old.heap.store)) i ≡ true

module _ {S : Type 0} (meaning : S → Meaning) (old : Config S) (heap : Heap S) (sound : IsTrue (not (meaning heap.store).spent) → IsSound (meaning heap.store)) (base : Base meaning old) where
  abbrev pub near_old : ObjId → Type 0
  near_old = IsNear old.apart.items

  works_still : (meaning heap.store).spent ≡ (meaning old.heap.store).spent → IsTrue (not (meaning heap.store).spent)
  works_still e = ap not e ∙ base.works

  -- the old worlds under the new store's own view
  abbrev pub before : Worlds
  before = (meaning old.heap.store).full (meaning heap.store).own

  pub before_near : (meaning heap.store).own ≡ (meaning old.heap.store).own → Within (NearSlot near_old) (worlds_in heap.texts before)
  before_near e = slots_named old.apart.items heap.texts before (subst (λ v. NearSlots old.apart.items ((meaning old.heap.store).full v)) (sym e) base.near_slots)

  before_known : (meaning heap.store).own ≡ (meaning old.heap.store).own → KnowsWorlds old.heap.texts before
  before_known e = subst (λ v. KnowsWorlds old.heap.texts ((meaning old.heap.store).full v)) (sym e) base.marks

  numbered : IsHeap (parts meaning heap) → KnowsWorlds heap.texts (worlds (meaning heap.store)) → Within (NearSlot near_old) (worlds_in heap.texts (worlds (meaning heap.store))) → NearSlots old.apart.items (worlds (meaning heap.store))
  numbered is knows h = slots_numbered old.apart.items heap.texts (worlds (meaning heap.store)) knows (λ i s v e. slot_knows heap.texts heap.texts heap.arena s is.table (Grows-refl heap.texts) (is.slots i s v e).0) h

  -- worlds that were there are those that are, by content
  were_there : (G : State content) → worlds_in heap.texts (worlds (meaning heap.store)) ≡ G → (meaning heap.store).own ≡ (meaning old.heap.store).own
      → (i : WorldId) → (has_world G i ≡ true → has_world (worlds_in heap.texts before) i ≡ true) → has_world (worlds (meaning heap.store)) i ≡ true → has_world (worlds (meaning old.heap.store)) i ≡ true
  were_there G e own i back h =
      ap (λ v. has_world ((meaning old.heap.store).full v) i) (sym own)
      ∙ sym (has_named heap.texts before i)
      ∙ back (ap (λ F. has_world F i) (sym e) ∙ has_named heap.texts (worlds (meaning heap.store)) i ∙ h)

  module _ {A : Type 0} (P : A → Type 0) (w : WorldId) (plan : Table → Plan A) (answer : Table → A) (reaches : Reaches near_old P (plan heap.texts)) (p : Performs w plan answer (parts meaning old.heap) (parts meaning heap)) where
    pub plan_left : P (answer heap.texts) × Left meaning old heap
    plan_left =
        let t = heap.texts in
        let own = (meaning heap.store).own in
        let works = works_still p.spent in
        let known = (worlds_grow old.heap.texts t p.texts before (before_known p.own)).0 in
        let c = p.carries t t (Grows-refl t) (Grows-refl t) own (sound works).admits_own known in
        let r = reached near_old P (plan t) w (worlds_in t before) reaches (before_near p.own) in (
          subst P (sym c.answers) r.0,
          record {
            works = works;
            slots = numbered p.heap c.knows (subst (Within (NearSlot near_old)) (sym c.worlds) r.1);
            were = λ i. were_there (worlds_after (plan t) w (worlds_in t before)) c.worlds p.own i (λ h. sym (none_made (plan t) w (worlds_in t before) i) ∙ h);
          },
        )

  module _ (act : Action Slot Value) (answer : Heard) (p : Acts act answer (parts meaning old.heap) (parts meaning heap)) where
    before_now : KnowsWorlds heap.texts before
    before_now = subst (λ t. KnowsWorlds t before) (sym p.texts) (before_known p.own)

    pub act_slots : Within (NearSlot near_old) (after (worlds_in heap.texts before) act) → NearSlots old.apart.items (worlds (meaning heap.store))
    act_slots h =
        let t = heap.texts in
        let c = p.acts t (Grows-refl t) (meaning heap.store).own (sound (works_still p.spent)).admits_own before_now in
        numbered p.heap c.knows (subst (Within (NearSlot near_old)) (sym c.worlds) h)

    pub act_were : (i : WorldId) → (has_world (after (worlds_in heap.texts before) act) i ≡ true → has_world (worlds_in heap.texts before) i ≡ true) → has_world (worlds (meaning heap.store)) i ≡ true → has_world (worlds (meaning old.heap.store)) i ≡ true
    act_were i back =
        let t = heap.texts in
        let c = p.acts t (Grows-refl t) (meaning heap.store).own (sound (works_still p.spent)).admits_own before_now in
        were_there (after (worlds_in t before) act) c.worlds p.own i back

  pub commit_left : (w : WorldId) (answer : Heard) → Acts (commit w) answer (parts meaning old.heap) (parts meaning heap) → Left meaning old heap
  commit_left w answer p = record {
    works = works_still p.spent;
    slots = act_slots (commit w) answer p (within_commit (NearSlot near_old) (worlds_in heap.texts before) w (before_near p.own));
    were = λ i. act_were (commit w) answer p i (none_by_commit (worlds_in heap.texts before) w i);
  }
