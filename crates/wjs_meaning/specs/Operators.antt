-- The operators between two values (ECMA-262, 3rd edition, sections 11.5 to 11.10).
use Rattle.std.specs.Prelude.{Bool, true, false, not, ◌||◌, ◌++◌, Option, None, Some, Result, Ok, bit_and, bit_or, bit_xor, pos, option_map, unwrap_or}
use Rattle.wjs_base.specs.declared.ids.ObjId.{ObjId}
use Rattle.wjs_num.specs.declared.arithmetic.NumFault.{NumFault}
use Rattle.wjs_num.specs.Exact.{sum, difference, product, quotient, remainder}
use Rattle.wjs_num.specs.Bits.{shifted_left, shifted_right, shifted_unsigned, by_bits}
use Rattle.wjs_tree.specs.declared.operators.BinaryOperator.{BinaryOperator}
use Rattle.wjs_tree.specs.declared.operators.BinaryOperator.TheVariants as binary
use Rattle.wjs_by_content.specs.Values.{Text, Whole, Value, Boolean, Object}
use Rattle.wjs_by_content.specs.Names.{prototype_name}
use Rattle.wjs_by_content.specs.Objects.{function_of, is_past}
use Rattle.wjs_meaning.specs.declared.trouble.Trouble.TheVariants.{BadRightOperand}
use Rattle.wjs_by_content.specs.Conversions.{to_boolean, primitive_number, primitive_text, strictly_equal, loosely_equal, less_than, is_nullish, is_text}
use Rattle.wjs_meaning.specs.Deeds.{Env, Act, Sub, Do, Look, give, then_value, then_number, then_text}
use Rattle.wjs_meaning.specs.Properties.{get_value, has}
use Rattle.wjs_meaning.specs.Errors.{throw, give_result, give_text}
use Rattle.wjs_meaning.specs.Conversions.{HintNumber, to_primitive, to_number, to_text}

-- ends with a truth value
abbrev pub give_truth : Bool → Act
give_truth b = give (Boolean b)

-- after a value: the opposite of its truth (11.4.9)
abbrev pub not_value : Value → Act
not_value v = give_truth (not (to_boolean v))

-- ---- numbers (11.5, 11.6.2, 11.7, 11.10)

-- the arithmetic of an operator
abbrev pub arithmetic : BinaryOperator → Whole → Whole → Result Whole NumFault
arithmetic binary.Multiply x y = product x y
arithmetic binary.Divide x y = quotient x y
arithmetic binary.Remainder x y = Ok (remainder x y)
arithmetic binary.Subtract x y = difference x y
arithmetic binary.ShiftLeft x y = Ok (Some (shifted_left x y))
arithmetic binary.ShiftRight x y = Ok (Some (shifted_right x y))
arithmetic binary.ShiftRightUnsigned x y = Ok (Some (pos (shifted_unsigned x y)))
arithmetic binary.BitAnd x y = Ok (Some (by_bits bit_and x y))
arithmetic binary.BitXor x y = Ok (Some (by_bits bit_xor x y))
arithmetic binary.BitOr x y = Ok (Some (by_bits bit_or x y))
arithmetic _ x y = Ok None

-- after ToNumber of the right
abbrev pub arithmetic_second : BinaryOperator → Whole → Env → Whole → Act
arithmetic_second op x env y = give_result (arithmetic op x y) env

-- after ToNumber of the left
abbrev pub arithmetic_first : BinaryOperator → Value → Env → Whole → Act
arithmetic_first op b env x = Sub (to_number b env) (then_number (arithmetic_second op x env))

-- ToNumber left, ToNumber right, and the operation
abbrev pub arithmetic_values : BinaryOperator → Value → Value → Env → Act
arithmetic_values op a b env = Sub (to_number a env) (then_number (arithmetic_first op b env))

-- ---- `+` (11.6.1)

-- after ToPrimitive of the right: a text on either side joins the texts of both
abbrev pub add_second : Value → Env → Value → Act
add_second p env q = elim (is_text p || is_text q) [
  | true ↦ give_text (primitive_text p ++ primitive_text q) env
  | false ↦ give_result (sum (primitive_number p) (primitive_number q)) env
]

-- after ToPrimitive of the left
abbrev pub add_first : Value → Env → Value → Act
add_first b env p = Sub (to_primitive HintNumber b env) (then_value (add_second p env))

-- ToPrimitive left, then right
abbrev pub add_values : Value → Value → Env → Act
add_values a b env = Sub (to_primitive HintNumber a env) (then_value (add_first b env))

-- ---- comparisons (11.8.1 to 11.8.5)

-- the comparison of an operator; NaN gives false
abbrev pub compared : BinaryOperator → Value → Value → Bool
compared binary.Less p q = unwrap_or (less_than p q) false
compared binary.Greater p q = unwrap_or (less_than q p) false
compared binary.LessEqual p q = unwrap_or (option_map not (less_than q p)) false
compared binary.GreaterEqual p q = unwrap_or (option_map not (less_than p q)) false
compared _ p q = false

-- after ToPrimitive of the right
abbrev pub compare_second : BinaryOperator → Value → Value → Act
compare_second op p q = give_truth (compared op p q)

-- after ToPrimitive of the left
abbrev pub compare_first : BinaryOperator → Value → Env → Value → Act
compare_first op b env p = Sub (to_primitive HintNumber b env) (then_value (compare_second op p))

-- ToPrimitive left, then right
abbrev pub compare_values : BinaryOperator → Value → Value → Env → Act
compare_values op a b env = Sub (to_primitive HintNumber a env) (then_value (compare_first op b env))

-- ---- `==` (11.9.1 to 11.9.3); what follows is told whether the values are equal

-- ends with the opposite of a truth value
abbrev pub give_opposite : Bool → Act
give_opposite b = give_truth (not b)

-- after ToPrimitive of the object
abbrev pub equal_primitive : Value → (Bool → Act) → Value → Act
equal_primitive b go p = go (loosely_equal p b)

-- an object against another value: not equal to undefined and null, else it is converted first
abbrev pub equal_object : ObjId → Value → Env → (Bool → Act) → Act
equal_object o b env go = elim (is_nullish b) [ true ↦ go false | false ↦ Sub (to_primitive HintNumber (Object o) env) (then_value (equal_primitive b go)) ]

-- two values
abbrev pub equal_values : Value → Value → Env → (Bool → Act) → Act
equal_values (Object o) (Object p) env go = go (strictly_equal (Object o) (Object p))
equal_values (Object o) b env go = equal_object o b env go
equal_values a (Object p) env go = equal_object p a env go
equal_values a b env go = go (loosely_equal a b)

-- ---- `instanceof` (11.8.6, 15.3.5.3)

-- after [[Get]] of `prototype` of the right: whether it is on the left's chain past the left itself
abbrev pub instance_prototype : ObjId → Env → Value → Act
instance_prototype o env (Object p) = Do Look (λ arena. give_truth (is_past arena p o))
instance_prototype o env v = throw BadRightOperand env

-- the right side is a function
abbrev pub instance_function : Value → Option ObjId → Env → Act
instance_function a None env = throw BadRightOperand env
instance_function (Object o) (Some f) env = get_value f prototype_name env (instance_prototype o env)
instance_function a (Some f) env = give_truth false

-- the right side is looked up
abbrev pub instance_values : Value → Value → Env → Act
instance_values a b env = Do Look (λ arena. instance_function a (function_of arena b) env)

-- ---- `in` (11.8.7)

-- after ToString of the left
abbrev pub in_name : ObjId → Env → Text → Act
in_name o env name = has o name env give_truth

-- the right side is an object
abbrev pub in_values : Value → Value → Env → Act
in_values a (Object o) env = Sub (to_text a env) (then_text (in_name o env))
in_values a b env = throw BadRightOperand env

-- ---- one line per operator but `&&` and `||`

abbrev pub operate : BinaryOperator → Value → Value → Env → Act
operate binary.Add a b env = add_values a b env
operate binary.Less a b env = compare_values binary.Less a b env
operate binary.Greater a b env = compare_values binary.Greater a b env
operate binary.LessEqual a b env = compare_values binary.LessEqual a b env
operate binary.GreaterEqual a b env = compare_values binary.GreaterEqual a b env
operate binary.Instanceof a b env = instance_values a b env
operate binary.In a b env = in_values a b env
operate binary.Equal a b env = equal_values a b env give_truth
operate binary.NotEqual a b env = equal_values a b env give_opposite
operate binary.StrictEqual a b env = give_truth (strictly_equal a b)
operate binary.StrictNotEqual a b env = give_truth (not (strictly_equal a b))
operate op a b env = arithmetic_values op a b env
