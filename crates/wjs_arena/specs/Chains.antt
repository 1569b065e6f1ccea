-- Prototypes, fixed properties and attributes.
use Rattle.std.specs.Prelude.{ℕ, zero, suc, Bool, true, false, ◌||◌, List, [], ◌∷◌, cond, Option, None, Some, is_some, unwrap_or}
use Rattle.std.specs.Option.{option_and_then, option_map_or}
use Rattle.std.specs.FinMap as map
use Rattle.wjs_base.specs.declared.ids.ObjId.{ObjId}
use Rattle.wjs_base.specs.declared.values.Name.{Name}
use Rattle.wjs_base.specs.declared.values.Value.{Value}
use Rattle.wjs_arena.specs.declared.object.Flags.{Flags}
use Rattle.wjs_base.specs.declared.values.Value.TheVariants as values
use Rattle.wjs_arena.specs.declared.class.Class.TheVariants as classes
use Rattle.wjs_arena.specs.declared.object.Code.TheVariants as codes
use Rattle.wjs_arena.specs.declared.object.Object.{Object}
use Rattle.wjs_arena.specs.AtName.{at_name}
use Rattle.wjs_arena.specs.Entries.{Objects, Entry, prototype_of, depth_at}

-- an object and its prototypes, so many at most
unfoldable pub chain_from : ℕ → Objects → Option ObjId → List ObjId
chain_from zero arena o = []
chain_from (suc n) arena None = []
chain_from (suc n) arena (Some o) = o ∷ chain_from n arena (prototype_of arena o)

-- the object and its prototypes in order: no more than its depth, since each is less deep than the one before
abbrev pub chain : Objects → ObjId → List ObjId
chain arena o = chain_from (depth_at arena o) arena (Some o)

-- ---- fixed properties and attributes

-- an object with nothing, in place of one that isn't there
abbrev pub no_object : Object
no_object = record { class = classes.Plain; prototype = None; scope = None; code = codes.None; primitive = values.Undefined; world = None; fixed = []; flags = []; all_kept = false }

-- the object of an entry
abbrev pub object_in : Option Entry → Object
object_in r = option_map_or (λ (e : Entry). e.object) r no_object

-- the value of a fixed property: one that is ReadOnly, DontEnum and DontDelete (ECMA-262, 3rd edition, section 8.6.1)
abbrev pub fixed : Objects → ObjId → Name → Option Value
fixed arena o name = option_and_then (λ (e : Entry). at_name e.object.fixed name) (map.get arena o)

-- the attributes that an object lists for a name
abbrev pub listed_flags : Object → Name → Flags
listed_flags x name = unwrap_or (at_name x.flags name) (record { hidden = false; kept = false })

-- the attributes of a name: a fixed property is hidden and kept, and others are as the object lists them, all kept where it says so
abbrev pub flags_in : Object → Name → Flags
flags_in x name = cond (is_some (at_name x.fixed name)) (record { hidden = true; kept = true }) (record { hidden = (listed_flags x name).hidden; kept = x.all_kept || (listed_flags x name).kept })

abbrev pub flags : Objects → ObjId → Name → Flags
flags arena o name = option_map_or (λ (e : Entry). flags_in e.object name) (map.get arena o) (record { hidden = false; kept = false })

-- no object of the list has the name as a fixed property
abbrev pub none_fixed : Objects → List ObjId → Name → Bool
none_fixed arena [] name = true
none_fixed arena (o ∷ os) name = cond (is_some (fixed arena o name)) false (none_fixed arena os name)

-- [[CanPut]] (section 8.6.2.3): no object of the chain has the name as a fixed property
abbrev pub is_puttable : Objects → ObjId → Name → Bool
is_puttable arena o name = none_fixed arena (chain arena o) name
