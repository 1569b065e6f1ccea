-- The table of the native functions, one row for each: on which object it stands, its name, its `length`, how its receiver and arguments are
-- converted, and its line (ECMA-262, 3rd edition, section 15).
use Rattle.std.specs.Prelude.{ℕ, Bool, true, false, List, [], ◌∷◌, length, Option, None, Some, codes}
use Rattle.wjs_base.specs.declared.ids.ObjId.{ObjId}
use Rattle.wjs_num.specs.Bits.{int32}
use Rattle.wjs_num.specs.Numerals.{integer_of_text}
use Rattle.wjs_num.specs.Power.{power}
use Rattle.wjs_arena.specs.declared.native.Native.{Native}
use Rattle.wjs_arena.specs.declared.native.Native.TheVariants as native
use Rattle.wjs_arena.specs.declared.native.GlobalNative.{GlobalNative}
use Rattle.wjs_arena.specs.declared.native.GlobalNative.TheVariants as global
use Rattle.wjs_arena.specs.declared.native.ObjectNative.{ObjectNative}
use Rattle.wjs_arena.specs.declared.native.ObjectNative.TheVariants as object
use Rattle.wjs_arena.specs.declared.native.FunctionNative.{FunctionNative}
use Rattle.wjs_arena.specs.declared.native.FunctionNative.TheVariants as function
use Rattle.wjs_arena.specs.declared.native.ErrorNative.{ErrorNative}
use Rattle.wjs_arena.specs.declared.native.ErrorNative.TheVariants as error
use Rattle.wjs_arena.specs.declared.native.WorldNative.{WorldNative}
use Rattle.wjs_arena.specs.declared.native.WorldNative.TheVariants as world
use Rattle.wjs_arena.specs.declared.native.ArrayNative.{ArrayNative}
use Rattle.wjs_arena.specs.declared.native.ArrayNative.TheVariants as array
use Rattle.wjs_arena.specs.declared.native.StringNative.{StringNative}
use Rattle.wjs_arena.specs.declared.native.StringNative.TheVariants as string
use Rattle.wjs_arena.specs.declared.native.NumberNative.{NumberNative}
use Rattle.wjs_arena.specs.declared.native.NumberNative.TheVariants as number
use Rattle.wjs_arena.specs.declared.native.BooleanNative.{BooleanNative}
use Rattle.wjs_arena.specs.declared.native.BooleanNative.TheVariants as boolean
use Rattle.wjs_arena.specs.declared.native.MathNative.{MathNative}
use Rattle.wjs_arena.specs.declared.native.MathNative.TheVariants as math
use Rattle.wjs_by_content.specs.Values.{Text, Value, Undefined, Boolean, Number, String}
use Rattle.wjs_by_content.specs.Conversions.{to_boolean, is_text}
use Rattle.wjs_meaning.specs.declared.kinds.Kind.{Kind}
use Rattle.wjs_meaning.specs.declared.kinds.Kind.TheVariants.{AsIs, ToText, ToNumber, ToInteger, TextIfGiven, NumberIfGiven, IntegerIfGiven}
use Rattle.wjs_meaning.specs.declared.kinds.Kinds.{Kinds}
use Rattle.wjs_meaning.specs.declared.kinds.Kinds.TheVariants.{Nothing, One, Two, Three, Each, IfGiven}
use Rattle.wjs_meaning.specs.declared.trouble.Trouble.TheVariants.{NotAConstructor, NoCodeFromText}
use Rattle.wjs_meaning.specs.Builtins.{first_object, global_object, object_prototype, function_prototype, array_prototype, string_prototype, number_prototype, boolean_prototype, world_prototype, error_prototype, type_error_prototype, range_error_prototype, reference_error_prototype, math_object}
use Rattle.wjs_meaning.specs.Deeds.{Env, Act, give}
use Rattle.wjs_meaning.specs.Errors.{throw, give_result, give_text}
use Rattle.wjs_meaning.specs.NewObjects.{to_object}
use Rattle.wjs_meaning.specs.NativesOfObjects.{value_at, text_at, whole_at, text_of, give_object, new_object, object_to_string, has_own_property, is_prototype_of, function_to_string, function_call, function_apply, new_error, error_to_string, sprout, commit, new_array, array_is_array}
use Rattle.wjs_meaning.specs.NativesOfTexts.{print, is_nan, wrapped, receiver, is_number, is_truth, or_zero, kept_within, new_string, from_char_code, glue, unit_at, char_at, char_code_at, joined, place_value, first_from, last_place, limit_of, substring, slice, split, new_number, number_to_string, boolean_to_string, absolute, extreme, greater_of, lesser_of}

-- where a native stands, and how its receiver and arguments are converted
pub record Row : Type 0 where
  pub holder : ObjId
  pub name : Text
  pub formals : ℕ
  pub prototype : Option ObjId
  pub this : Kind
  pub arguments : Kinds

-- a native on an object, and a constructor on the global object with its prototype object
abbrev pub on : ObjId → Text → ℕ → Kind → Kinds → Row
on holder name formals this arguments = record { holder = holder; name = name; formals = formals; prototype = None; this = this; arguments = arguments }

abbrev pub makes : ObjId → Text → ℕ → Kinds → Row
makes prototype name formals arguments =
    record { holder = global_object; name = name; formals = formals; prototype = Some prototype; this = AsIs; arguments = arguments }

-- what a native does: by the names of all natives, whether `new` calls it, its converted receiver and arguments
abbrev pub Line : Type 0
Line = (Native → Text) → Bool → Value → List Value → Env → Act

pub record Defined : Type 0 where
  pub row : Row
  pub line : Line

-- only a constructor asks whether `new` calls it, and none asks for its receiver
abbrev pub method : ObjId → Text → ℕ → Kind → Kinds → (Value → List Value → Env → Act) → Defined
method holder name formals this arguments line = record { row = on holder name formals this arguments; line = λ names new this args env. line this args env }

abbrev pub constructor : ObjId → Text → ℕ → Kinds → (Bool → List Value → Env → Act) → Defined
constructor prototype name formals arguments line = record { row = makes prototype name formals arguments; line = λ names new this args env. line new args env }

-- the number of the first native, and of the constructors that hold natives themselves
abbrev pub first_native : ℕ
first_native = 14

abbrev pub array_constructor : ObjId
array_constructor = first_object 36

abbrev pub string_constructor : ObjId
string_constructor = first_object 38

-- the global object (15.1)
abbrev pub global_native : GlobalNative → Defined
global_native global.Print = method global_object (codes "print") 1 AsIs (One ToText) (λ this args env. print (text_at args 0))
global_native global.ParseInt = method global_object (codes "parseInt") 2 AsIs (Two ToText ToNumber)
    (λ this args env. give_result (integer_of_text (text_at args 0) (int32 (whole_at args 1))) env)
global_native global.IsNaN = method global_object (codes "isNaN") 1 AsIs (One ToNumber) (λ this args env. is_nan (whole_at args 0))

-- Object (15.2)
abbrev pub object_native : ObjectNative → Defined
object_native object.Constructor = constructor object_prototype (codes "Object") 1 (One AsIs) (λ new args env. new_object (value_at args 0) env)
object_native object.ToString = method object_prototype (codes "toString") 0 AsIs Nothing (λ this args env. object_to_string this env)
object_native object.ValueOf = method object_prototype (codes "valueOf") 0 AsIs Nothing (λ this args env. to_object this env give_object)
object_native object.HasOwnProperty = method object_prototype (codes "hasOwnProperty") 1 AsIs (One ToText)
    (λ this args env. has_own_property false this (text_at args 0) env)
object_native object.PropertyIsEnumerable = method object_prototype (codes "propertyIsEnumerable") 1 AsIs (One ToText)
    (λ this args env. has_own_property true this (text_at args 0) env)
object_native object.IsPrototypeOf = method object_prototype (codes "isPrototypeOf") 1 AsIs (One AsIs) (λ this args env. is_prototype_of this (value_at args 0))

-- Function (15.3); the code of Function.prototype stands on no object
abbrev pub function_native : FunctionNative → Defined
function_native function.Constructor = constructor function_prototype (codes "Function") 1 Nothing (λ new args env. throw NoCodeFromText env)
function_native function.Prototype = method object_prototype (codes "anonymous") 0 AsIs Nothing (λ this args env. give Undefined)
function_native function.ToString = record {
  row = on function_prototype (codes "toString") 0 AsIs Nothing;
  line = λ names new this args env. function_to_string this names env;
}
function_native function.Call = method function_prototype (codes "call") 1 AsIs (Each AsIs) (λ this args env. function_call this args env)
function_native function.Apply = method function_prototype (codes "apply") 2 AsIs (Two AsIs AsIs) (λ this args env. function_apply this args env)

-- Error and the errors on it (15.11)
abbrev pub error_native : ErrorNative → Defined
error_native error.Error = constructor error_prototype (codes "Error") 1 (One TextIfGiven) (λ new args env. new_error error_prototype (value_at args 0) env)
error_native error.TypeError = constructor type_error_prototype (codes "TypeError") 1 (One TextIfGiven)
    (λ new args env. new_error type_error_prototype (value_at args 0) env)
error_native error.RangeError = constructor range_error_prototype (codes "RangeError") 1 (One TextIfGiven)
    (λ new args env. new_error range_error_prototype (value_at args 0) env)
error_native error.ReferenceError = constructor reference_error_prototype (codes "ReferenceError") 1 (One TextIfGiven)
    (λ new args env. new_error reference_error_prototype (value_at args 0) env)
error_native error.ToString = method error_prototype (codes "toString") 0 AsIs Nothing (λ this args env. error_to_string this env)

-- World (ECOOP 2011)
abbrev pub world_native : WorldNative → Defined
world_native world.Constructor = constructor world_prototype (codes "World") 0 Nothing (λ new args env. throw NotAConstructor env)
world_native world.Sprout = method world_prototype (codes "sprout") 0 AsIs Nothing (λ this args env. sprout false this env)
world_native world.SproutStrict = method world_prototype (codes "sproutStrict") 0 AsIs Nothing (λ this args env. sprout true this env)
world_native world.Commit = method world_prototype (codes "commit") 0 AsIs Nothing (λ this args env. commit this env)

-- Array (15.4)
abbrev pub array_native : ArrayNative → Defined
array_native array.Constructor = constructor array_prototype (codes "Array") 1 (Each AsIs) (λ new args env. new_array args env)
array_native array.IsArray = method array_constructor (codes "isArray") 1 AsIs (One AsIs) (λ this args env. array_is_array (value_at args 0))

-- String (15.5)
abbrev pub string_native : StringNative → Defined
string_native string.Constructor = constructor string_prototype (codes "String") 1 (IfGiven ToText) (λ new args env. new_string new args env)
string_native string.FromCharCode = method string_constructor (codes "fromCharCode") 1 AsIs (Each ToNumber) (λ this args env. from_char_code args env)
string_native string.Glue = method string_constructor (codes "glue") 3 AsIs (Three AsIs ToNumber ToText)
    (λ this args env. glue (value_at args 0) (whole_at args 1) (text_at args 2) env)
string_native string.ToString = method string_prototype (codes "toString") 0 AsIs Nothing (λ this args env. receiver is_text this env give)
string_native string.ValueOf = method string_prototype (codes "valueOf") 0 AsIs Nothing (λ this args env. receiver is_text this env give)
string_native string.CharAt = method string_prototype (codes "charAt") 1 ToText (One ToInteger)
    (λ this args env. char_at (unit_at (text_of this) (whole_at args 0)))
string_native string.CharCodeAt = method string_prototype (codes "charCodeAt") 1 ToText (One ToInteger)
    (λ this args env. char_code_at (unit_at (text_of this) (whole_at args 0)))
string_native string.Concat = method string_prototype (codes "concat") 1 ToText (Each ToText) (λ this args env. give_text (joined (this ∷ args)) env)
string_native string.IndexOf = method string_prototype (codes "indexOf") 1 ToText (Two ToText ToInteger)
    (λ this args env. give (place_value (first_from (text_of this) (text_at args 0) (kept_within (or_zero (whole_at args 1)) (length (text_of this))))))
string_native string.LastIndexOf = method string_prototype (codes "lastIndexOf") 1 ToText (Two ToText ToNumber)
    (λ this args env. give (place_value (last_place (text_at args 0) (limit_of (whole_at args 1) (length (text_of this))) None 0 (text_of this))))
string_native string.Substring = method string_prototype (codes "substring") 2 ToText (Two ToInteger IntegerIfGiven)
    (λ this args env. give (String (substring (text_of this) (whole_at args 0) (value_at args 1))))
string_native string.Slice = method string_prototype (codes "slice") 2 ToText (Two ToInteger IntegerIfGiven)
    (λ this args env. give (String (slice (text_of this) (whole_at args 0) (value_at args 1))))
string_native string.Split = method string_prototype (codes "split") 2 ToText (Two TextIfGiven NumberIfGiven)
    (λ this args env. split (text_of this) (value_at args 0) (value_at args 1) env)

-- Number (15.7)
abbrev pub number_native : NumberNative → Defined
number_native number.Constructor = constructor number_prototype (codes "Number") 1 (IfGiven ToNumber) (λ new args env. new_number new args env)
number_native number.ToString = method number_prototype (codes "toString") 1 AsIs (One NumberIfGiven)
    (λ this args env. number_to_string this (value_at args 0) env)
number_native number.ValueOf = method number_prototype (codes "valueOf") 0 AsIs Nothing (λ this args env. receiver is_number this env give)

-- Boolean (15.6)
abbrev pub boolean_native : BooleanNative → Defined
boolean_native boolean.Constructor = constructor boolean_prototype (codes "Boolean") 1 (One AsIs)
    (λ new args env. wrapped new (Boolean (to_boolean (value_at args 0))) env)
boolean_native boolean.ToString = method boolean_prototype (codes "toString") 0 AsIs Nothing (λ this args env. boolean_to_string this env)
boolean_native boolean.ValueOf = method boolean_prototype (codes "valueOf") 0 AsIs Nothing (λ this args env. receiver is_truth this env give)

-- Math (15.8)
abbrev pub math_native : MathNative → Defined
math_native math.Abs = method math_object (codes "abs") 1 AsIs (One ToNumber) (λ this args env. give (Number (absolute (whole_at args 0))))
math_native math.Floor = method math_object (codes "floor") 1 AsIs (One ToNumber) (λ this args env. give (Number (whole_at args 0)))
math_native math.Ceil = method math_object (codes "ceil") 1 AsIs (One ToNumber) (λ this args env. give (Number (whole_at args 0)))
math_native math.Round = method math_object (codes "round") 1 AsIs (One ToNumber) (λ this args env. give (Number (whole_at args 0)))
math_native math.Max = method math_object (codes "max") 2 AsIs (Each ToNumber) (λ this args env. extreme greater_of args env)
math_native math.Min = method math_object (codes "min") 2 AsIs (Each ToNumber) (λ this args env. extreme lesser_of args env)
math_native math.Pow = method math_object (codes "pow") 2 AsIs (Two ToNumber ToNumber)
    (λ this args env. give_result (power (whole_at args 0) (whole_at args 1)) env)

-- ---- all of them

abbrev pub definition_of : Native → Defined
definition_of (native.Global k) = global_native k
definition_of (native.Object k) = object_native k
definition_of (native.Function k) = function_native k
definition_of (native.Error k) = error_native k
definition_of (native.World k) = world_native k
definition_of (native.Array k) = array_native k
definition_of (native.String k) = string_native k
definition_of (native.Number k) = number_native k
definition_of (native.Boolean k) = boolean_native k
definition_of (native.Math k) = math_native k

abbrev pub row_of : Native → Row
row_of k = (definition_of k).row

-- the native functions, in the order of their numbers
abbrev pub natives : List Native
natives =
    native.Global global.Print ∷ native.Global global.ParseInt ∷ native.Global global.IsNaN ∷
    native.Object object.Constructor ∷ native.Object object.ToString ∷ native.Object object.ValueOf ∷ native.Object object.HasOwnProperty ∷
    native.Object object.PropertyIsEnumerable ∷ native.Object object.IsPrototypeOf ∷
    native.Function function.Constructor ∷ native.Function function.ToString ∷ native.Function function.Call ∷ native.Function function.Apply ∷
    native.Error error.Error ∷ native.Error error.TypeError ∷ native.Error error.RangeError ∷ native.Error error.ReferenceError ∷
    native.Error error.ToString ∷
    native.World world.Constructor ∷ native.World world.Sprout ∷ native.World world.SproutStrict ∷ native.World world.Commit ∷
    native.Array array.Constructor ∷ native.Array array.IsArray ∷
    native.String string.Constructor ∷ native.String string.FromCharCode ∷ native.String string.Glue ∷ native.String string.ToString ∷
    native.String string.ValueOf ∷ native.String string.CharAt ∷ native.String string.CharCodeAt ∷ native.String string.Concat ∷
    native.String string.IndexOf ∷ native.String string.LastIndexOf ∷ native.String string.Substring ∷ native.String string.Slice ∷
    native.String string.Split ∷
    native.Number number.Constructor ∷ native.Number number.ToString ∷ native.Number number.ValueOf ∷
    native.Boolean boolean.Constructor ∷ native.Boolean boolean.ToString ∷ native.Boolean boolean.ValueOf ∷
    native.Math math.Abs ∷ native.Math math.Floor ∷ native.Math math.Ceil ∷ native.Math math.Round ∷
    native.Math math.Max ∷ native.Math math.Min ∷ native.Math math.Pow ∷
    []
