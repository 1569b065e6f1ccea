-- Conversions of values that may be objects (ECMA-262, 3rd edition, section 9). They may call script code.
use Rattle.std.specs.Prelude.{[], None, Some, pos, unwrap_or}
use Rattle.wjs_base.specs.declared.ids.ObjId.{ObjId}
use Rattle.wjs_by_content.specs.Values.{Text, Value, Number, String, Object}
use Rattle.wjs_by_content.specs.Names.{to_string_name, value_of_name}
use Rattle.wjs_by_content.specs.Objects.{function_of}
use Rattle.wjs_meaning.specs.declared.trouble.Trouble.TheVariants.{NoPrimitiveValue}
use Rattle.wjs_by_content.specs.Conversions.{primitive_number, primitive_text}
use Rattle.wjs_meaning.specs.Deeds.{Env, Act, Sub, Do, Look, give, then_value}
use Rattle.wjs_meaning.specs.Properties.{get_value}
use Rattle.wjs_meaning.specs.Errors.{throw}
use Rattle.wjs_meaning.specs.Calls.{call}

pub data Hint : Type 0 where
  HintString : Hint
  HintNumber : Hint

-- the method that is tried first (8.6.2.6)
abbrev pub first_method : Hint → Text
first_method HintString = to_string_name
first_method HintNumber = value_of_name

-- the method that is tried second
abbrev pub second_method : Hint → Text
second_method HintString = value_of_name
second_method HintNumber = to_string_name

-- a method's result, where it is a primitive
abbrev pub method_result : Act → Value → Act
method_result otherwise (Object o) = otherwise
method_result otherwise v = give v

-- a method is taken by [[Get]], and called where it is a function
abbrev pub try_method : Text → ObjId → Env → Act → Act
try_method name o env otherwise = get_value o name env (λ v. Do Look (λ arena. elim (function_of arena v) [
  | None ↦ otherwise
  | Some f ↦ Sub (call f (Object o) [] env) (then_value (method_result otherwise))
]))

-- ToPrimitive (9.1); without a hint it is that of a number
abbrev pub to_primitive : Hint → Value → Env → Act
to_primitive hint (Object o) env = try_method (first_method hint) o env (try_method (second_method hint) o env (throw NoPrimitiveValue env))
to_primitive hint v env = give v

abbrev pub number_of_primitive : Value → Act
number_of_primitive p = give (Number (primitive_number p))

abbrev pub text_of_primitive : Value → Act
text_of_primitive p = give (String (primitive_text p))

-- NaN becomes 0
abbrev pub integer_of_primitive : Value → Act
integer_of_primitive p = give (Number (Some (unwrap_or (primitive_number p) (pos 0))))

-- ToNumber (9.3)
abbrev pub to_number : Value → Env → Act
to_number v env = Sub (to_primitive HintNumber v env) (then_value number_of_primitive)

-- ToString (9.8)
abbrev pub to_text : Value → Env → Act
to_text v env = Sub (to_primitive HintString v env) (then_value text_of_primitive)

-- ToInteger (9.4)
abbrev pub to_integer : Value → Env → Act
to_integer v env = Sub (to_primitive HintNumber v env) (then_value integer_of_primitive)
