-- What stands under the names of an object.
use Rattle.std.specs.Prelude.{◌≡◌, ◌||◌, List, map as each, filter}
use Rattle.wjs_base.specs.declared.ids.ObjId.{ObjId}
use Rattle.wjs_base.specs.declared.values.Name.{Name}
use Rattle.wjs_base.specs.declared.values.Value.{Value as NumberedValue}
use Rattle.wjs_base.specs.Spelling.{IsName}
use Rattle.wjs_base.specs.Text.{Table}
use Rattle.wjs_arena.specs.declared.object.Flags.{Flags}
use Rattle.wjs_arena.specs.declared.object.Object.{Object}
use Rattle.wjs_arena.specs.Entries.{Objects}
use Rattle.wjs_by_content.specs.Renamed.{Holds}
use Rattle.wjs_store.specs.State.{same_object}
use Rattle.wjs_by_content.specs.Values.{Text, Value}
use Rattle.wjs_by_content.specs.Objects.{Internals}
use Rattle.wjs_by_content.specs.Tables.{value_in, under_in, object_in}
use Rattle.wjs_heap.specs.Heap.{HasValue, HasNamed}
use Rattle.wjs_meaning.specs.Trees.{has_text}
use Rattle.wjs_meaning.specs.Start.{Property, flags_if}

-- attributes of names that are there
pub record IsFlagged (t : Table) (xs : List (Name × Flags)) (ys : List (Text × Flags)) : Type 0 where
  pub there : Holds (λ e. IsName t e.0) xs
  pub are : under_in t (λ f. f) xs ≡ ys

-- values under names, all of them there
pub record IsFixed (t : Table) (arena : Objects) (xs : List (Name × NumberedValue)) (ys : List (Text × Value)) : Type 0 where
  pub there : Holds (λ e. IsName t e.0 × HasValue t arena e.1) xs
  pub are : under_in t (value_in t) xs ≡ ys

-- the object is this one by content, and what it names is there
pub record IsBuilt (t : Table) (arena : Objects) (x : Object) (y : Internals) : Type 0 where
  pub is : object_in t x ≡ y
  pub named : HasNamed t arena x

-- the attributes that an object has by some slots; those of these names are kept
abbrev pub flags_among : List Property → ObjId → List Text → List (Text × Flags)
flags_among ps o declared = each (λ p. ((p.at).name, flags_if (p.kept || has_text declared (p.at).name))) (filter (λ p. same_object (p.at).object o) ps)
