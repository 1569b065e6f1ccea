-- Conversions and comparisons of primitives, by content (ECMA-262, 3rd edition, sections 9 and 11). What is said of an object here is for the sake of a total definition, where the language first makes a primitive of it.
use Rattle.std.specs.Prelude.{zero, suc, Bool, true, false, not, ◌&&◌, ◌||◌, if◌then◌else◌, [], ◌∷◌, Option, None, Some, pos, negsuc, codes}
use Rattle.std.specs.Ordering.{int_eq, is_lt}
use mathlib.Core.Bool.{beq}
use Rattle.wjs_num.specs.Digits.{text_of_number}
use Rattle.wjs_num.specs.Exact.{is_less}
use Rattle.wjs_num.specs.Numerals.{number_of_text}
use Rattle.wjs_store.specs.State.{same_object}
use Rattle.wjs_by_content.specs.Values.{Text, Whole, Value, Undefined, Null, Boolean, Number, String, Object, same_text}
use Rattle.wjs_by_content.specs.Names.{text_cmp}

-- ---- kinds of values

abbrev pub is_object : Value → Bool
is_object (Object o) = true
is_object v = false

-- every value but an object (4.3.2)
abbrev pub is_primitive : Value → Bool
is_primitive v = not (is_object v)

-- undefined or null
abbrev pub is_nullish : Value → Bool
is_nullish Undefined = true
is_nullish Null = true
is_nullish v = false

abbrev pub is_nan : Value → Bool
is_nan (Number None) = true
is_nan v = false

abbrev pub is_text : Value → Bool
is_text (String t) = true
is_text v = false

-- ---- conversions

-- ToBoolean (9.2)
abbrev pub to_boolean : Value → Bool
to_boolean Undefined = false
to_boolean Null = false
to_boolean (Boolean b) = b
to_boolean (Number None) = false
to_boolean (Number (Some (pos zero))) = false
to_boolean (Number (Some (pos (suc n)))) = true
to_boolean (Number (Some (negsuc n))) = true
to_boolean (String []) = false
to_boolean (String (u ∷ us)) = true
to_boolean (Object o) = true

-- ToNumber of a primitive (9.3); of an object NaN
abbrev pub primitive_number : Value → Whole
primitive_number Undefined = None
primitive_number Null = Some (pos 0)
primitive_number (Boolean b) = if b then Some (pos 1) else Some (pos 0)
primitive_number (Number x) = x
primitive_number (String t) = number_of_text t
primitive_number (Object o) = None

-- ToString of a primitive (9.8); of an object no units
abbrev pub primitive_text : Value → Text
primitive_text Undefined = codes "undefined"
primitive_text Null = codes "null"
primitive_text (Boolean b) = if b then codes "true" else codes "false"
primitive_text (Number x) = text_of_number 10 x
primitive_text (String t) = t
primitive_text (Object o) = []

-- ---- comparisons

-- equal numbers; NaN equals nothing, nor itself
abbrev pub equal : Whole → Whole → Bool
equal None None = false
equal None (Some b) = false
equal (Some a) None = false
equal (Some a) (Some b) = int_eq a b

-- `===` (11.9.6)
abbrev pub strictly_equal : Value → Value → Bool
strictly_equal Undefined Undefined = true
strictly_equal Null Null = true
strictly_equal (Boolean a) (Boolean b) = beq a b
strictly_equal (Number x) (Number y) = equal x y
strictly_equal (String s) (String t) = same_text s t
strictly_equal (Object a) (Object b) = same_object a b
strictly_equal a b = false

-- of one type that has more values than one, numbers apart
abbrev pub alike : Value → Value → Bool
alike (Boolean a) (Boolean b) = true
alike (String s) (String t) = true
alike (Object a) (Object b) = true
alike a b = false

-- `==` of primitives (11.9.3): undefined and null equal each other alone, values of one type as `===`, and others as numbers; an object equals itself alone
abbrev pub loosely_equal : Value → Value → Bool
loosely_equal a b = if is_nullish a || is_nullish b then is_nullish a && is_nullish b else (if alike a b then strictly_equal a b else equal (primitive_number a) (primitive_number b))

-- `<` of primitives (11.8.5): texts by their units, others as numbers, where NaN gives None
abbrev pub less_than : Value → Value → Option Bool
less_than (String s) (String t) = Some (is_lt (text_cmp s t))
less_than a b = is_less (primitive_number a) (primitive_number b)
