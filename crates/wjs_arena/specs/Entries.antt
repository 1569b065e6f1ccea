-- The arena as contracts see it: a finite map from the numbers of objects.
use Rattle.std.specs.Prelude.{◌≡◌, ℕ, ◌+◌, ◌<◌, max, ◌==◌, Bool, not, ◌++◌, Option, None, Some, IsTrue, ◌↔◌}
use Rattle.std.specs.Option.{option_and_then, option_map_or}
use Rattle.std.specs.FinMap as map
use Rattle.std.specs.FinMap.{FinMap}
use Rattle.wjs_base.specs.declared.ids.ObjId.{ObjId}
use Rattle.wjs_base.specs.declared.ids.WorldId.{WorldId}
use Rattle.wjs_base.specs.Order.{obj_cmp}
use Rattle.wjs_arena.specs.declared.object.Object.{Object}
use Rattle.wjs_arena.specs.declared.entry.Entry.{Entry as Placed}

-- an object of the arena, and its depth: greater than those of its prototype and its scope
abbrev pub Entry : Type 0
Entry = Placed

-- the objects by number
abbrev pub Objects : Type 0
Objects = FinMap obj_cmp Entry

-- whether an object is there
abbrev pub has : Objects → ObjId → Bool
has arena id = map.contains_key arena id

-- the object's [[Prototype]] (ECMA-262, 3rd edition, section 8.6.2)
abbrev pub prototype_of : Objects → ObjId → Option ObjId
prototype_of arena id = option_and_then (λ (e : Entry). e.object.prototype) (map.get arena id)

-- a function's [[Scope]] (section 13.2), or the next scope outwards
abbrev pub scope_of : Objects → ObjId → Option ObjId
scope_of arena id = option_and_then (λ (e : Entry). e.object.scope) (map.get arena id)

-- the world that the object stands for
abbrev pub world_of : Objects → ObjId → Option WorldId
world_of arena id = option_and_then (λ (e : Entry). e.object.world) (map.get arena id)

-- the depth of an object, which is 0 where there is none
abbrev pub depth_at : Objects → ObjId → ℕ
depth_at arena id = option_map_or (λ (e : Entry). e.depth) (map.get arena id) 0

abbrev pub depth_of : Objects → Option ObjId → ℕ
depth_of arena None = 0
depth_of arena (Some id) = depth_at arena id

-- ---- numbers

-- an owner's objects
abbrev pub objects_of : Objects → ℕ → Objects
objects_of arena owner = map.retain_keys arena (λ id. id.owner == owner)

-- those of all others
abbrev pub others_of : Objects → ℕ → Objects
others_of arena owner = map.retain_keys arena (λ id. not (id.owner == owner))

-- the objects of both, where those of the first come first
abbrev pub joined : Objects → Objects → Objects
joined arena more = map.from_entries (map.entries arena ++ map.entries more)

-- the number of the owner's next object: the count of those that it has
abbrev pub next_number : Objects → ℕ → ObjId
next_number arena owner = record { owner = owner; serial = map.len (objects_of arena owner) }

-- a new object one deeper than its prototype and its scope
abbrev pub entry_over : Objects → Object → Entry
entry_over arena object = record { object = object; depth = max (depth_of arena object.prototype) (depth_of arena object.scope) + 1 }

-- the arena with one more object
abbrev pub created : Objects → ℕ → Object → Objects
created arena owner object = map.insert arena (next_number arena owner) (entry_over arena object)

-- ---- what holds of every arena

-- the object that is named, if one is, is there
abbrev pub IsThere : Objects → Option ObjId → Type 0
IsThere arena None = Unit {0}
IsThere arena (Some id) = IsTrue (has arena id)

-- an object that is named by one of a depth is there, and less deep
abbrev pub IsBelow : Objects → ObjId → ℕ → Type 0
IsBelow arena id depth = IsTrue (has arena id) × (depth_at arena id < depth)

pub record IsArena (arena : Objects) : Type 0 where
  -- an owner's objects have the serials from 0 on
  pub serials : (id : ObjId) → IsTrue (has arena id) ↔ (id.serial < (next_number arena id.owner).serial)
  -- an object is at least 1 deep
  pub deep : (id : ObjId) → IsTrue (has arena id) → 0 < depth_at arena id
  -- prototypes and scopes are there, each less deep than the object: chains end
  pub prototypes : (o p : ObjId) → prototype_of arena o ≡ Some p → IsBelow arena p (depth_at arena o)
  pub scopes : (o p : ObjId) → scope_of arena o ≡ Some p → IsBelow arena p (depth_at arena o)
  -- at most one object stands for a world
  pub one_object : (a b : ObjId) (world : WorldId) → world_of arena a ≡ Some world → world_of arena b ≡ Some world → a ≡ b

-- a world that an object stands for has the object's owner
abbrev pub WorldsAreOwn : Objects → Type 0
WorldsAreOwn arena = (o : ObjId) (world : WorldId) → world_of arena o ≡ Some world → world.owner ≡ o.owner

-- no object of the first has the owner of one of the second
abbrev pub NoOwnerInCommon : Objects → Objects → Type 0
NoOwnerInCommon one two = (a b : ObjId) → IsTrue (has one a) → IsTrue (has two b) → ¬ (a.owner ≡ b.owner)

-- each object that was there is there as it was
abbrev pub Keeps : Objects → Objects → Type 0
Keeps old new = (id : ObjId) (e : Entry) → map.get old id ≡ Some e → map.get new id ≡ Some e
