-- What objects are in all worlds, by content: their internal properties, fixed when they are made (ECMA-262, 3rd edition, section 8.6.2).
use Rattle.std.specs.Prelude.{ℕ, zero, suc, ◌+◌, Bool, true, false, ◌||◌, ◌==◌, cond, max, List, [], ◌∷◌, Option, None, Some, is_some, unwrap_or}
use Rattle.std.specs.Option.{option_map_or}
use Rattle.std.specs.FinMap as map
use Rattle.std.specs.FinMap.{FinMap}
use Rattle.wjs_base.specs.declared.ids.ObjId.{ObjId}
use Rattle.wjs_base.specs.declared.ids.WorldId.{WorldId}
use Rattle.wjs_base.specs.Order.{obj_cmp}
use Rattle.wjs_store.specs.State.{same_world, same_object}
use Rattle.wjs_arena.specs.declared.class.Class.{Class}
use Rattle.wjs_arena.specs.declared.class.Class.TheVariants as class
use Rattle.wjs_arena.specs.declared.object.Code.{Code}
use Rattle.wjs_arena.specs.declared.object.Code.TheVariants as code
use Rattle.wjs_arena.specs.declared.object.Flags.{Flags}
use Rattle.wjs_by_content.specs.Values.{Text, Value, Undefined, Object, same_text}

-- the internal properties of an object, its fixed properties and the attributes of the others, where the first of a name counts
pub record Internals : Type 0 where
  pub class : Class
  pub prototype : Option ObjId
  pub scope : Option ObjId
  pub code : Code
  pub primitive : Value
  pub world : Option WorldId
  pub fixed : List (Text × Value)
  pub flags : List (Text × Flags)
  pub all_kept : Bool

-- an object of the arena, and its depth: greater than those of its prototype and its scope
pub record Entry : Type 0 where
  pub object : Internals
  pub depth : ℕ

-- the objects by number
abbrev pub Arena : Type 0
Arena = FinMap obj_cmp Entry

-- an object of a class, on a prototype
abbrev pub object_of : Class → Option ObjId → Internals
object_of class prototype = record { class = class; prototype = prototype; scope = None; code = code.None; primitive = Undefined; world = None; fixed = []; flags = []; all_kept = false }

abbrev pub no_flags : Flags
no_flags = record { hidden = false; kept = false }

abbrev pub hidden_flags : Flags
hidden_flags = record { hidden = true; kept = false }

abbrev pub kept_flags : Flags
kept_flags = record { hidden = false; kept = true }

abbrev pub hidden_kept_flags : Flags
hidden_kept_flags = record { hidden = true; kept = true }

-- ---- the arena

-- whether the object is there
abbrev pub has_object : Arena → ObjId → Bool
has_object arena o = map.contains_key arena o

-- an object of the arena, and a plain one where it is not there
abbrev pub object_at : Arena → ObjId → Internals
object_at arena o = option_map_or (λ (e : Entry). e.object) (map.get arena o) (object_of class.Plain None)

-- an object's depth, and 0 where it is not there
abbrev pub depth_at : Arena → ObjId → ℕ
depth_at arena o = option_map_or (λ (e : Entry). e.depth) (map.get arena o) 0

abbrev pub depth_of : Arena → Option ObjId → ℕ
depth_of arena None = 0
depth_of arena (Some o) = depth_at arena o

-- how many objects an owner has
abbrev pub count_of : ℕ → Arena → ℕ
count_of owner arena = map.len (map.retain_keys arena (λ o. o.owner == owner))

-- the number of the owner's next object
abbrev pub next_number : Arena → ℕ → ObjId
next_number arena owner = record { owner = owner; serial = count_of owner arena }

-- a new object, deeper than its prototype and its scope
abbrev pub entry_of : Arena → Internals → Entry
entry_of arena internals = record { object = internals; depth = max (depth_of arena internals.prototype) (depth_of arena internals.scope) + 1 }

-- the arena with one more object
abbrev pub created : Arena → ℕ → Internals → Arena
created arena owner internals = map.insert arena (next_number arena owner) (entry_of arena internals)

-- an object and its prototypes in order, at most so many
abbrev pub chain_of : ℕ → Arena → Option ObjId → List ObjId
chain_of zero arena o = []
chain_of (suc most) arena None = []
chain_of (suc most) arena (Some o) = o ∷ chain_of most arena (object_at arena o).prototype

-- the object and its prototypes, which its depth bounds
abbrev pub chain : Arena → ObjId → List ObjId
chain arena o = chain_of (depth_at arena o) arena (Some o)

-- the object's prototypes, without it
abbrev pub prototypes : Arena → ObjId → List ObjId
prototypes arena o = chain_of (depth_at arena o) arena (object_at arena o).prototype

-- the scope so many scopes outwards
abbrev pub scope_up : Arena → ℕ → ObjId → ObjId
scope_up arena zero scope = scope
scope_up arena (suc hops) scope = scope_up arena hops (unwrap_or (object_at arena scope).scope scope)

-- ---- fixed properties and flags

-- what a list holds under a name
abbrev pub at_name : {A : Type 0} → List (Text × A) → Text → Option A
at_name [] name = None
at_name (x ∷ xs) name = cond (same_text x.0 name) (Some x.1) (at_name xs name)

-- the value of a fixed property
abbrev pub fixed : Arena → ObjId → Text → Option Value
fixed arena o name = at_name (object_at arena o).fixed name

-- the attributes that the object lists for a name
abbrev pub listed_flags : Internals → Text → Flags
listed_flags x name = unwrap_or (at_name x.flags name) no_flags

-- the attributes of a name: a fixed property is hidden and kept, and others are as the object lists them, all kept where it says so
abbrev pub flags_in : Internals → Text → Flags
flags_in x name = cond (is_some (at_name x.fixed name)) hidden_kept_flags (record { hidden = (listed_flags x name).hidden; kept = x.all_kept || (listed_flags x name).kept })

abbrev pub flags : Arena → ObjId → Text → Flags
flags arena o name = flags_in (object_at arena o) name

-- not enumerable
abbrev pub is_hidden : Arena → ObjId → Text → Bool
is_hidden arena o name = (flags arena o name).hidden

-- not deletable
abbrev pub is_kept : Arena → ObjId → Text → Bool
is_kept arena o name = (flags arena o name).kept

-- no object of the list has the name as a fixed property
abbrev pub none_fixed : Arena → List ObjId → Text → Bool
none_fixed arena [] name = true
none_fixed arena (o ∷ os) name = cond (is_some (fixed arena o name)) false (none_fixed arena os name)

-- no object of the chain has the name fixed
abbrev pub is_puttable : Arena → ObjId → Text → Bool
is_puttable arena o name = none_fixed arena (chain arena o) name

-- ---- kinds of objects

-- whether the object is in the list
abbrev pub is_among : List ObjId → ObjId → Bool
is_among [] o = false
is_among (p ∷ ps) o = same_object p o || is_among ps o

-- p is on o's chain past o itself
abbrev pub is_past : Arena → ObjId → ObjId → Bool
is_past arena p o = is_among (prototypes arena o) p

-- whether there is code
abbrev pub has_code : Code → Bool
has_code code.None = false
has_code (code.Script tree node) = true
has_code (code.Native k) = true

-- whether the object is a function
abbrev pub is_callable : Arena → ObjId → Bool
is_callable arena o = has_code (object_at arena o).code

-- an object with code
abbrev pub function_of : Arena → Value → Option ObjId
function_of arena (Object o) = cond (is_callable arena o) (Some o) None
function_of arena v = None

abbrev pub is_array_class : Class → Bool
is_array_class class.Array = true
is_array_class _ = false

-- whether the object is an Array
abbrev pub is_array : Arena → ObjId → Bool
is_array arena o = is_array_class (object_at arena o).class

-- the World object of a world
abbrev pub has_that_world : WorldId → Option WorldId → Bool
has_that_world w None = false
has_that_world w (Some v) = same_world v w

-- the first object of a list that has a world
abbrev pub world_object_in : List (ObjId × Entry) → WorldId → Option ObjId
world_object_in [] w = None
world_object_in (x ∷ xs) w = cond (has_that_world w (x.1).object.world) (Some x.0) (world_object_in xs w)

-- the object that has a world
abbrev pub world_object : Arena → WorldId → Option ObjId
world_object arena w = world_object_in (map.entries arena) w
