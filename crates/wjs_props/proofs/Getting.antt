-- [[Get]] goes along the prototypes.
use Rattle.std.proofs.Common.{◌≡◌, Bool, true, false, cond, List, [], ◌∷◌, Option, None, Some, refl, sym, ap, ◌∙◌, subst, IsTrue, IfSome}
use Rattle.std.specs.Option.{option_map, option_and_then}
use Rattle.std.specs.FinMap as map
use Rattle.wjs_base.specs.declared.ids.ObjId.{ObjId}
use Rattle.wjs_base.specs.declared.ids.WorldId.{WorldId}
use Rattle.wjs_base.specs.declared.values.Content.{Content}
use Rattle.wjs_base.specs.declared.values.Name.{Name}
use Rattle.wjs_base.specs.declared.values.Value.{Value as NumberedValue}
use Rattle.wjs_base.specs.Spelling.{IsName}
use Rattle.wjs_base.specs.Text.{Table, Grows, IsTable}
use Rattle.wjs_by_content.proofs.Growth.{name_grows}
use Rattle.wjs_by_content.proofs.Known.{name_known, name_known_is_name}
use Rattle.wjs_store.specs.State.{has_world}
use Rattle.wjs_store.specs.Meaning.{worlds}
use Rattle.wjs_store.specs.Shown.{content_of}
use Rattle.wjs_by_content.specs.Renamed.{Holds}
use Rattle.wjs_arena.specs.AtName as numbered_at
use Rattle.wjs_arena.specs.AtName.{same_name}
use Rattle.wjs_arena.specs.Chains as numbered
use Rattle.wjs_arena.specs.Chains.{chain_from}
use Rattle.wjs_arena.specs.Entries.{Objects, Entry, prototype_of, depth_of}
use Rattle.wjs_arena.specs.Entries as entries
use Rattle.wjs_arena.specs.declared.object.Object.{Object}
use Rattle.wjs_arena.proofs.Walks.{chain_step, there_next, link_is}
use Rattle.wjs_base.specs.declared.values.Content.TheVariants.{Absent, Present}
use Rattle.wjs_base.proofs.TextLaws.{Grows-trans}
use Rattle.wjs_by_content.specs.Values.{Value}
use Rattle.wjs_by_content.specs.Names.{slot}
use Rattle.wjs_by_content.specs.Objects.{fixed}
use Rattle.wjs_by_content.specs.Plans.{Plan, Gives, Reads}
use Rattle.wjs_by_content.specs.Tables.{name_in, value_in, slot_in, content_in, arena_in}
use Rattle.wjs_heap.specs.Heap.{Parts, HasValue, IsHeap, Performs}
use Rattle.wjs_by_content.specs.Properties as plan
use Rattle.wjs_by_content.proofs.ArenaMaps.{chain_same}
use Rattle.wjs_heap.proofs.Turns.{performs_nothing, performs_then, performs_same}
use Rattle.wjs_props.proofs.ByContent.{fixed_in}

-- a walk has come to an object: what does the rest does the whole
pub record IsGetting (w : WorldId) (n : Name) (o : ObjId) (old now : Parts) (at : ObjId) : Type 0 where
  pub heap : IsHeap now
  pub world : IsTrue (has_world (worlds now.store) w)
  pub there : IsTrue (entries.has now.arena at)
  pub arena : now.arena ≡ old.arena
  pub name : IsName now.texts n
  pub rest : (b : Table → Option Value) (new : Parts) → Performs w (λ t. plan.get_along (numbered.chain old.arena at) (arena_in t old.arena) (name_in t n)) b now new → Performs w (λ t. plan.get (arena_in t old.arena) o (name_in t n)) b old new

pub begins : (w : WorldId) (n : Name) (o : ObjId) (h : Parts) → IsHeap h → IsTrue (has_world (worlds h.store) w) → IsTrue (entries.has h.arena o) → IsName h.texts n → IsGetting w n o h h o
begins w n o h heap world there name = record {
  heap = heap;
  world = world;
  there = there;
  arena = refl;
  name = name;
  rest = λ b new f. performs_same w _ _ b b h new (λ t g. ap (λ os. plan.get_along os (arena_in t h.arena) (name_in t n)) (sym (chain_same t h.arena o))) (λ t g. refl) f;
}

-- what is fixed, of an arena that a heap has
fixed_by : (h : Parts) (m : Objects) → IsHeap h → h.arena ≡ m → (t : Table) → Grows h.texts t → (o : ObjId) (n : Name) → IsName h.texts n → fixed (arena_in t m) o (name_in t n) ≡ option_map (value_in t) (numbered.fixed m o n)
fixed_by h m heap e t g o n is = subst (λ (z : Objects). fixed (arena_in t z) o (name_in t n) ≡ option_map (value_in t) (numbered.fixed z o n)) e (fixed_in h heap t g o n is)

name_stays : (old new : Table) → IsTable old → Grows old new → (n : Name) → IsName old n → IsName new n
name_stays old new table g n is = name_known_is_name new n (name_grows old new g n (name_known old table n is)).0

grows_more : (a b c d : Table) → Grows a b → Grows b c → Grows c d → Grows a d
grows_more a b c d f g k = Grows-trans a c d (Grows-trans a b c f g) k

module _ (w : WorldId) (n : Name) (o : ObjId) (old now : Parts) (at : ObjId) (so : IsGetting w n o old now at) where
  -- what follows the read of the slot
  follows : List ObjId → Table → Option Value → Plan (Option Value)
  follows os t found = elim found [ Some v ↦ Gives (Some v) | None ↦ plan.get_along os (arena_in t old.arena) (name_in t n) ]

  steps : (p : Option ObjId) → prototype_of now.arena at ≡ p → numbered.chain old.arena at ≡ at ∷ chain_from (depth_of old.arena p) old.arena p
  steps p is = subst (λ (z : Objects). numbered.chain z at ≡ at ∷ chain_from (depth_of z p) z p) so.arena (chain_step now.arena so.heap.arena at p so.there is)

  -- a fixed property ends it
  pub ends_fixed : (v : NumberedValue) → numbered.fixed now.arena at n ≡ Some v → Performs w (λ t. plan.get (arena_in t old.arena) o (name_in t n)) (λ t. Some (value_in t v)) old now
  unfolding follows
  ends_fixed v is = so.rest (λ t. Some (value_in t v)) now
      (performs_same w (λ t. Gives (Some (value_in t v))) _ (λ t. Some (value_in t v)) (λ t. Some (value_in t v)) now now
      (λ t g.
      let os = chain_from (depth_of old.arena (prototype_of now.arena at)) old.arena (prototype_of now.arena at) in
      let fx : fixed (arena_in t old.arena) at (name_in t n) ≡ Some (value_in t v) =
      fixed_by now old.arena so.heap so.arena t g at n so.name ∙ ap (λ (z : Objects). option_map (value_in t) (numbered.fixed z at n)) (sym so.arena) ∙ ap (option_map (value_in t)) is in
      sym (ap (λ xs. plan.get_along xs (arena_in t old.arena) (name_in t n)) (steps (prototype_of now.arena at) refl)
      ∙ ap (λ (r : Option Value). elim r [ Some u ↦ Gives (Some u) | None ↦ Reads (slot at (name_in t n)) (follows os t) ]) fx))
      (λ t g. refl)
      (performs_nothing w (λ t. Some (value_in t v)) now so.heap))

  module _ (mid : Parts) (c : Content) (none : numbered.fixed now.arena at n ≡ None) (did : Performs w (λ t. Reads (slot_in t (record { object = at; name = n })) Gives) (λ t. content_in t c) now mid) where
    -- the read and what follows it
    read_then : (p : Option ObjId) → prototype_of now.arena at ≡ p → (b : Table → Option Value) (new : Parts)
        → Performs w (λ t. follows (chain_from (depth_of old.arena p) old.arena p) t (content_in t c)) b mid new → Performs w (λ t. plan.get (arena_in t old.arena) o (name_in t n)) b old new
    unfolding follows
    read_then p is b new s = so.rest b new
        (performs_same w _ _ b b now new
        (λ t g.
        let os = chain_from (depth_of old.arena p) old.arena p in
        let g' = grows_more now.texts mid.texts new.texts t did.texts s.texts g in
        let fx : fixed (arena_in t old.arena) at (name_in t n) ≡ None =
        fixed_by now old.arena so.heap so.arena t g' at n so.name ∙ ap (λ (z : Objects). option_map (value_in t) (numbered.fixed z at n)) (sym so.arena) ∙ ap (option_map (value_in t)) none in
        sym (ap (λ xs. plan.get_along xs (arena_in t old.arena) (name_in t n)) (steps p is)
        ∙ ap (λ (r : Option Value). elim r [ Some u ↦ Gives (Some u) | None ↦ Reads (slot at (name_in t n)) (follows os t) ]) fx))
        (λ t g. refl)
        (performs_then w (λ t. Reads (slot_in t (record { object = at; name = n })) Gives) (λ t. follows (chain_from (depth_of old.arena p) old.arena p) t) (λ t. content_in t c) b now mid new did s))

    -- a present slot ends it
    pub ends_found : (v : NumberedValue) → content_of c ≡ Some v → Performs w (λ t. plan.get (arena_in t old.arena) o (name_in t n)) (λ t. content_in t c) old mid
    unfolding follows
    ends_found v is = read_then (prototype_of now.arena at) refl (λ t. content_in t c) mid
        (performs_same w (λ t. Gives (content_in t c)) _ (λ t. content_in t c) (λ t. content_in t c) mid mid
        (λ t g. subst (λ x. Gives x ≡ follows (chain_from (depth_of old.arena (prototype_of now.arena at)) old.arena (prototype_of now.arena at)) t x) (sym (ap (option_map (value_in t)) is)) refl)
        (λ t g. refl)
        (performs_nothing w (λ t. content_in t c) mid did.heap))

    -- nothing found, and no prototype
    pub ends_absent : content_of c ≡ None → prototype_of now.arena at ≡ None → Performs w (λ t. plan.get (arena_in t old.arena) o (name_in t n)) (λ t. None) old mid
    unfolding follows chain_from
    ends_absent is last = read_then None last (λ t. None) mid
        (performs_same w (λ t. Gives None) _ (λ t. None) (λ t. None) mid mid
        (λ t g. sym (ap (λ r. follows [] t (option_map (value_in t) r)) is))
        (λ t g. refl)
        (performs_nothing w (λ t. None) mid did.heap))

    -- nothing found: it goes on at the prototype
    pub goes_on : (p : ObjId) → content_of c ≡ None → prototype_of now.arena at ≡ Some p → IsGetting w n o old mid p
    unfolding follows
    goes_on p is next = record {
      heap = did.heap;
      world = did.still_there w so.world;
      there = subst (λ (z : Objects). IsTrue (entries.has z p)) (sym did.arena) (there_next now.arena so.heap.arena at (Some p) next);
      arena = did.arena ∙ so.arena;
      name = name_stays now.texts mid.texts so.heap.table did.texts n so.name;
      rest = λ b new s. read_then (Some p) next b new
          (performs_same w _ _ b b mid new (λ t g. sym (ap (λ r. follows (chain_from (depth_of old.arena (Some p)) old.arena (Some p)) t (option_map (value_in t) r)) is)) (λ t g. refl) s);
    }

-- ---- a fixed value is there

holds_at : (texts : Table) (m : Objects) (xs : List (Name × NumberedValue)) (n : Name) (v : NumberedValue) → Holds (λ e. IsName texts e.0 × HasValue texts m e.1) xs → numbered_at.at_name xs n ≡ Some v → HasValue texts m v
holds_at texts m [] n v k e = cc
holds_at texts m (x ∷ xs) n v k e = by (same_name x.0 n) (λ q. holds_at texts m xs n v k.1 q) e
  where
    by : (b : Bool) → (numbered_at.at_name xs n ≡ Some v → HasValue texts m v) → cond b (Some x.1) (numbered_at.at_name xs n) ≡ Some v → HasValue texts m v
    by true later q = let s : x.1 ≡ v = cc in subst (HasValue texts m) s k.0.1
    by false later q = later q

pub fixed_there : (h : Parts) → IsHeap h → (o : ObjId) (n : Name) (v : NumberedValue) → numbered.fixed h.arena o n ≡ Some v → HasValue h.texts h.arena v
fixed_there h heap o n v e = by (map.get h.arena o) refl e
  where
    by : (r : Option Entry) → map.get h.arena o ≡ r → option_and_then (λ (x : Entry). numbered_at.at_name x.object.fixed n) r ≡ Some v → HasValue h.texts h.arena v
    by None is q = cc
    by (Some x) is q = holds_at h.texts h.arena x.object.fixed n v (heap.objects o x is).fixed q

-- ---- what the code found

pub none_of : {A : Type 0} (r : Option A) → ((v : A) → r ≡ Some v → ⊥) → r ≡ None
none_of None h = refl
none_of (Some v) h = absurd (h v refl)

pub absent_of : (c : Content) → ((v : NumberedValue) → c ≡ Present v → ⊥) → content_of c ≡ None
absent_of Absent h = refl
absent_of (Present v) h = absurd (h v refl)

-- the prototype that was found after the read
pub next_of : (now mid : Parts) (at : ObjId) (x : Object) → mid.arena ≡ now.arena → IsTrue (entries.has now.arena at) → IfSome (map.get mid.arena at) (λ (e : Entry). x ≡ e.object) → prototype_of now.arena at ≡ x.prototype
next_of now mid at x e there is = ap (λ (z : Objects). prototype_of z at) (sym e) ∙ link_is mid.arena at x (subst (λ (z : Objects). IsTrue (entries.has z at)) (sym e) there) is
