-- What the arena of a heap answers by number it answers by content, since what the heap names is known.
use Rattle.std.proofs.Common.{◌≡◌, ℕ, true, List, [], ◌∷◌, refl, ap, eqb-true, eq-eqb}
use Rattle.std.specs.Option.{option_map}
use Rattle.wjs_base.specs.declared.ids.ObjId.{ObjId}
use Rattle.wjs_base.specs.declared.values.Name.{Name}
use Rattle.wjs_base.specs.declared.values.Name.TheVariants as name
use Rattle.wjs_base.specs.declared.values.Value.{Value}
use Rattle.wjs_base.specs.Spelling.{IsName}
use Rattle.wjs_base.specs.Text.{Table, Grows}
use Rattle.wjs_by_content.specs.Renamed.{Holds}
use Rattle.wjs_arena.specs.declared.object.Flags.{Flags}
use Rattle.wjs_arena.specs.declared.object.Object.{Object}
use Rattle.wjs_arena.specs.AtName.{same_name}
use Rattle.wjs_arena.specs.Chains as numbered
use Rattle.wjs_by_content.specs.Objects.{fixed, flags, is_puttable}
use Rattle.wjs_by_content.specs.Tables.{name_in, value_in, arena_in, knows_name, knows_value, KnowsUnder, KnowsObject, KnowsArena}
use Rattle.wjs_by_content.proofs.Fixed as content
use Rattle.wjs_by_content.proofs.Growth.{name_grows, value_grows}
use Rattle.wjs_by_content.proofs.Known.{name_known}
use Rattle.wjs_heap.specs.Heap.{Parts, HasValue, HasNamed, IsHeap}
use Rattle.wjs_props.proofs.Actions.{value_knows}

-- ---- names by number

pub name_itself : (n : Name) → same_name n n ≡ true
name_itself (name.Index i) = eq-eqb i i refl
name_itself (name.Text id) = eq-eqb id.0 id.0 refl

pub name_tied : (a b : Name) → same_name a b ≡ true → a ≡ b
name_tied (name.Index i) (name.Index j) h = ap (λ (k : ℕ). name.Index k) (eqb-true i j h)
name_tied (name.Text a) (name.Text b) h = ap (λ (k : ℕ). name.Text (record { 0 = k })) (eqb-true a.0 b.0 h)
name_tied (name.Index i) (name.Text b) h = cc
name_tied (name.Text a) (name.Index j) h = cc

-- ---- of a heap

module _ (h : Parts) (heap : IsHeap h) (t : Table) (g : Grows h.texts t) where
  pub name_knows : (n : Name) → IsName h.texts n → knows_name t n ≡ true
  name_knows n is = (name_grows h.texts t g n (name_known h.texts heap.table n is)).0

  known_value : (v : Value) → HasValue h.texts h.arena v → knows_value t v ≡ true
  known_value v has = (value_grows h.texts t g v (value_knows h.texts h.arena v heap.table has)).0

  fixed_known : (xs : List (Name × Value)) → Holds (λ e. IsName h.texts e.0 × HasValue h.texts h.arena e.1) xs → KnowsUnder t (knows_value t) xs
  fixed_known [] k = tt
  fixed_known (x ∷ xs) k = ((name_knows x.0 k.0.0, known_value x.1 k.0.1), fixed_known xs k.1)

  flags_known : (xs : List (Name × Flags)) → Holds (λ e. IsName h.texts e.0) xs → KnowsUnder t (λ f. true) xs
  flags_known [] k = tt
  flags_known (x ∷ xs) k = ((name_knows x.0 k.0, refl), flags_known xs k.1)

  object_known : (x : Object) → HasNamed h.texts h.arena x → KnowsObject t x
  object_known x has = record { primitive = known_value x.primitive has.primitive; fixed = fixed_known x.fixed has.fixed; flags = flags_known x.flags has.flags }

  arena_known : KnowsArena t h.arena
  arena_known = λ o e q. object_known e.object (heap.objects o e q)

  -- a fixed property
  pub fixed_in : (o : ObjId) (n : Name) → IsName h.texts n → fixed (arena_in t h.arena) o (name_in t n) ≡ option_map (value_in t) (numbered.fixed h.arena o n)
  fixed_in o n is = content.fixed_same t h.arena arena_known o n (name_knows n is)

  -- the attributes of a name
  pub flags_same : (o : ObjId) (n : Name) → IsName h.texts n → flags (arena_in t h.arena) o (name_in t n) ≡ numbered.flags h.arena o n
  flags_same o n is = content.flags_same t h.arena arena_known o n (name_knows n is)

  -- whether the name may be put
  pub puttable_in : (o : ObjId) (n : Name) → IsName h.texts n → is_puttable (arena_in t h.arena) o (name_in t n) ≡ numbered.is_puttable h.arena o n
  puttable_in o n is = content.puttable_same t h.arena arena_known o n (name_knows n is)
