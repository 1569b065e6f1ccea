-- The first objects by number, and the objects that primitives and classes stand for.
use Rattle.std.specs.Prelude.{ℕ, List, [], ◌∷◌, Some, codes, length}
use Rattle.wjs_base.specs.declared.ids.ObjId.{ObjId}
use Rattle.wjs_meaning.specs.declared.builtin.Builtin.{Builtin}
use Rattle.wjs_meaning.specs.declared.builtin.Builtin.TheVariants as first
use Rattle.wjs_arena.specs.declared.class.Class.{Class}
use Rattle.wjs_arena.specs.declared.class.Class.TheVariants as class
use Rattle.wjs_by_content.specs.Values.{Text, Value, Boolean, Number, String, whole}
use Rattle.wjs_by_content.specs.Names.{length_name}
use Rattle.wjs_by_content.specs.Objects.{Internals, object_of}

-- an object of owner 0, by its number
abbrev pub first_object : ℕ → ObjId
first_object n = record { owner = 0; serial = n }

-- the number of an object that no row of the natives' table makes
abbrev pub number_of : Builtin → ℕ
number_of first.ObjectPrototype = 0
number_of first.FunctionPrototype = 1
number_of first.Global = 2
number_of first.ArrayPrototype = 3
number_of first.StringPrototype = 4
number_of first.NumberPrototype = 5
number_of first.BooleanPrototype = 6
number_of first.WorldPrototype = 7
number_of first.ErrorPrototype = 8
number_of first.TypeErrorPrototype = 9
number_of first.RangeErrorPrototype = 10
number_of first.ReferenceErrorPrototype = 11
number_of first.Math = 12
number_of first.FirstWorld = 13

abbrev pub builtin : Builtin → ObjId
builtin b = first_object (number_of b)

abbrev pub object_prototype : ObjId
object_prototype = builtin first.ObjectPrototype

abbrev pub function_prototype : ObjId
function_prototype = builtin first.FunctionPrototype

abbrev pub global_object : ObjId
global_object = builtin first.Global

abbrev pub array_prototype : ObjId
array_prototype = builtin first.ArrayPrototype

abbrev pub string_prototype : ObjId
string_prototype = builtin first.StringPrototype

abbrev pub number_prototype : ObjId
number_prototype = builtin first.NumberPrototype

abbrev pub boolean_prototype : ObjId
boolean_prototype = builtin first.BooleanPrototype

abbrev pub world_prototype : ObjId
world_prototype = builtin first.WorldPrototype

abbrev pub error_prototype : ObjId
error_prototype = builtin first.ErrorPrototype

abbrev pub type_error_prototype : ObjId
type_error_prototype = builtin first.TypeErrorPrototype

abbrev pub range_error_prototype : ObjId
range_error_prototype = builtin first.RangeErrorPrototype

abbrev pub reference_error_prototype : ObjId
reference_error_prototype = builtin first.ReferenceErrorPrototype

abbrev pub math_object : ObjId
math_object = builtin first.Math

abbrev pub first_world_object : ObjId
first_world_object = builtin first.FirstWorld

-- ---- primitives and their objects

-- the prototype object of a primitive's class
abbrev pub class_prototype : Value → ObjId
class_prototype (String t) = string_prototype
class_prototype (Number x) = number_prototype
class_prototype (Boolean b) = boolean_prototype
class_prototype _ = object_prototype

-- the class of its wrapper
abbrev pub wrapper_class : Value → Class
wrapper_class (String t) = class.Text
wrapper_class (Number x) = class.Number
wrapper_class (Boolean b) = class.Bool
wrapper_class _ = class.Plain

-- a text's fixed `length` (15.5.5.1)
abbrev pub fixed_length : Value → List (Text × Value)
fixed_length (String t) = (length_name, whole (length t)) ∷ []
fixed_length _ = []

-- a wrapper of a primitive (15.5.2.1, 15.6.2.1, 15.7.2.1)
abbrev pub wrapper_of : Value → Internals
wrapper_of v = record (object_of (wrapper_class v) (Some (class_prototype v))) { primitive = v; fixed = fixed_length v }

-- the shown name of a class
abbrev pub shown_class : Class → Text
shown_class class.Plain = codes "Object"
shown_class class.Arguments = codes "Object"
shown_class class.Global = codes "Object"
shown_class class.Text = codes "String"
shown_class class.Bool = codes "Boolean"
shown_class class.Fault = codes "Error"
shown_class class.Function = codes "Function"
shown_class class.Array = codes "Array"
shown_class class.Number = codes "Number"
shown_class class.World = codes "World"
shown_class class.Math = codes "Math"
shown_class class.Scope = codes "Scope"
