-- What there is before the first step: the objects and the first world.
use Rattle.std.specs.Prelude.{ℕ, ◌+◌, Bool, true, false, ◌||◌, List, [], ◌∷◌, ◌++◌, map as each, filter, fold, Option, None, Some, codes}
use Rattle.std.specs.FinMap as map
use Rattle.std.specs.FinMap.{FinMap}
use Rattle.wjs_base.specs.declared.ids.ObjId.{ObjId}
use Rattle.wjs_store.specs.State.{State, same_object, first_world}
use Rattle.wjs_arena.specs.declared.class.Class.{Class}
use Rattle.wjs_arena.specs.declared.class.Class.TheVariants as class
use Rattle.wjs_arena.specs.declared.native.Native.TheVariants as native
use Rattle.wjs_arena.specs.declared.native.FunctionNative.TheVariants as function
use Rattle.wjs_by_content.specs.Values.{Text, Value, Undefined, Boolean, Number, String, Object, whole}
use Rattle.wjs_by_content.specs.Names.{Slot, slot, slot_cmp, content, length_name, prototype_name, constructor_name, name_name, message_name}
use Rattle.wjs_arena.specs.declared.object.Code.TheVariants as code
use Rattle.wjs_arena.specs.declared.object.Flags.{Flags}
use Rattle.wjs_by_content.specs.Objects.{Arena, Internals, object_of, hidden_flags, kept_flags, created}
use Rattle.wjs_meaning.specs.Trees.{has_text}
use Rattle.wjs_meaning.specs.Deeds.{St}
use Rattle.wjs_meaning.specs.Builtins.{first_object, object_prototype, function_prototype, global_object, array_prototype, string_prototype, number_prototype, boolean_prototype, world_prototype, error_prototype, type_error_prototype, range_error_prototype, reference_error_prototype, math_object}
use Rattle.wjs_meaning.specs.WorldValues.{world_object_of}
use Rattle.wjs_arena.specs.declared.native.Native.{Native}
use Rattle.wjs_meaning.specs.Table.{Row, natives, row_of, first_native}

-- ---- the slots of the first world

-- a slot with its value; all are hidden, and some are kept
pub record Property : Type 0 where
  pub at : Slot
  pub value : Value
  pub kept : Bool

-- a hidden slot
abbrev pub property : ObjId → Text → Value → Property
property o name v = record { at = slot o name; value = v; kept = false }

-- a slot that is kept too
abbrev pub kept_property : ObjId → Text → Value → Property
kept_property o name v = record { at = slot o name; value = v; kept = true }

-- a constructor's prototype object has `constructor`
abbrev pub constructor_property : Option ObjId → ObjId → List Property
constructor_property None f = []
constructor_property (Some p) f = property p constructor_name (Object f) ∷ []

-- where a native of the table stands, by the number of its object
abbrev pub row_properties : Row → ObjId → List Property
row_properties r f = property r.holder r.name (Object f) ∷ constructor_property r.prototype f

abbrev pub native_properties : ℕ → List Native → List Property
native_properties n [] = []
native_properties n (k ∷ ks) = row_properties (row_of k) (first_object n) ++ native_properties (n + 1) ks

-- the name and the empty message of an error's prototype object
abbrev pub error_properties : ObjId → Text → List Property
error_properties o name = property o name_name (String name) ∷ property o message_name (String []) ∷ []

-- all slots of the first world
abbrev pub properties : List Property
properties =
    kept_property global_object (codes "NaN") (Number None) ∷
    kept_property global_object (codes "undefined") Undefined ∷
    property global_object (codes "Math") (Object math_object) ∷
    kept_property array_prototype length_name (whole 0) ∷
    error_properties error_prototype (codes "Error") ++
    error_properties type_error_prototype (codes "TypeError") ++
    error_properties range_error_prototype (codes "RangeError") ++
    error_properties reference_error_prototype (codes "ReferenceError") ++
    native_properties first_native natives

-- ---- the objects

abbrev pub flags_if : Bool → Flags
flags_if kept = record { hidden = true; kept = kept }

-- the flags that an object has by its properties; the names that the script declares are kept
abbrev pub flags_on : ObjId → List Text → List (Text × Flags)
flags_on o declared = each (λ p. ((p.at).name, flags_if (p.kept || has_text declared (p.at).name))) (filter (λ p. same_object (p.at).object o) properties)

-- the names that the library puts on Array.prototype
abbrev pub library_names : List Text
library_names = codes "join" ∷ codes "toString" ∷ codes "concat" ∷ codes "pop" ∷ codes "push" ∷ codes "reverse" ∷ codes "shift" ∷ codes "slice" ∷ codes "splice" ∷ codes "unshift" ∷ []

-- with the flags by its properties
abbrev pub with_flags : ObjId → Internals → Internals
with_flags o internals = record internals { flags = flags_on o [] }

-- a prototype object, on Object.prototype
abbrev pub on_object : Class → ObjId → Internals
on_object class o = with_flags o (object_of class (Some object_prototype))

-- one that wraps a primitive
abbrev pub wrapping : Class → Value → ObjId → Internals
wrapping class v o = record (on_object class o) { primitive = v }

-- an error's, on Error.prototype
abbrev pub on_error : ObjId → Internals
on_error o = with_flags o (object_of class.Fault (Some error_prototype))

abbrev pub fixed_length : ℕ → List (Text × Value)
fixed_length n = (length_name, whole n) ∷ []

-- the objects that no table row makes, in the order of their numbers
abbrev pub first_objects : List Text → List Internals
first_objects declared =
    with_flags object_prototype (object_of class.Plain None) ∷
    record (on_object class.Function function_prototype) { code = code.Native (native.Function function.Prototype); fixed = fixed_length 0 } ∷
    record (object_of class.Global (Some object_prototype)) { flags = flags_on global_object declared ++ each (λ name. (name, kept_flags)) declared } ∷
    record (object_of class.Array (Some object_prototype)) { flags = flags_on array_prototype [] ++ each (λ name. (name, hidden_flags)) library_names } ∷
    record (wrapping class.Text (String []) string_prototype) { fixed = fixed_length 0 } ∷
    wrapping class.Number (whole 0) number_prototype ∷
    wrapping class.Bool (Boolean false) boolean_prototype ∷
    on_object class.Plain world_prototype ∷
    on_object class.Fault error_prototype ∷
    on_error type_error_prototype ∷
    on_error range_error_prototype ∷
    on_error reference_error_prototype ∷
    on_object class.Math math_object ∷
    world_object_of first_world ∷
    []

abbrev pub fixed_prototype : Option ObjId → List (Text × Value)
fixed_prototype None = []
fixed_prototype (Some p) = (prototype_name, Object p) ∷ []

-- the function object of a native
abbrev pub native_object : Native → ObjId → Internals
native_object k f = record (with_flags f (object_of class.Function (Some function_prototype))) {
  code = code.Native k;
  fixed = fixed_length (row_of k).formals ++ fixed_prototype (row_of k).prototype;
}

-- those of the table, the first being object n
abbrev pub native_objects : ℕ → List Native → List Internals
native_objects n [] = []
native_objects n (k ∷ ks) = native_object k (first_object n) ∷ native_objects (n + 1) ks

-- all objects of the start, each made after those that it names as prototype
abbrev pub first_arena : List Text → Arena
first_arena declared = fold (λ (arena : Arena) object. created arena 0 object) map.empty (first_objects declared ++ native_objects first_native natives)

-- ---- the state

-- the slots as a map
abbrev pub first_copy : List Property → FinMap slot_cmp Value
first_copy [] = map.empty
first_copy (p ∷ ps) = map.insert (first_copy ps) p.at p.value

-- the first world alone
abbrev pub first_full : State content
first_full = record { id = first_world; parent = None; strict = false; copy = first_copy properties; first = map.empty; written = map.empty; closed = map.empty } ∷ []

-- before the first step, where the script declares these names
abbrev pub start : List Text → St
start declared = record { full = first_full; arena = first_arena declared; out = []; done = [] }
