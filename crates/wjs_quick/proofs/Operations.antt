-- The lines of operators whose operands need no conversion of an object (ECMA-262, 3rd edition, sections 11.4 to 11.12).
use Rattle.std.proofs.Common.{◌≡◌, ℕ, Bool, true, false, Result, Ok, refl, ap, subst}
use Rattle.wjs_num.specs.declared.arithmetic.NumFault.{NumFault}
use Rattle.wjs_num.specs.Exact.{sum}
use Rattle.wjs_tree.specs.declared.operators.BinaryOperator.{BinaryOperator}
use Rattle.wjs_tree.specs.declared.operators.BinaryOperator.TheVariants as binary
use Rattle.wjs_tree.specs.declared.operators.PrefixOperator.{PrefixOperator}
use Rattle.wjs_tree.specs.declared.operators.PrefixOperator.TheVariants as prefix
use Rattle.wjs_by_content.specs.Values.{Value, Whole, Undefined, Null, Number, Object}
use Rattle.wjs_by_content.specs.Conversions.{is_nullish, is_object, primitive_number, strictly_equal, loosely_equal, to_boolean}
use Rattle.wjs_meaning.specs.Errors.{give_result}
use Rattle.wjs_meaning.specs.Deeds.{Env, Act, Ret, Eval, AtExpr, give, then_value}
use Rattle.wjs_meaning.specs.Conversions.{HintNumber, number_of_primitive}
use Rattle.wjs_meaning.specs.Operators.{arithmetic, operate, arithmetic_values, arithmetic_first, arithmetic_second, add_values, add_first, add_second, compare_values, compare_first, compare_second, equal_values}
use Rattle.wjs_meaning.specs.Expressions.{prefix_of, and_left, or_left, binary_left, binary_right, cond_test, minus_number, complement_number}
use Rattle.wjs_frames.specs.Shortening.{Shortens}
use Rattle.wjs_frames.proofs.Shorter.{shorten_trans}
use Rattle.wjs_step_common.proofs.Converting.{primitive_shortens, number_shortens}
use Rattle.wjs_quick.specs.Operating.{is_calculation, is_of_value, after_prefix}

pub arithmetic_shortens : (op : BinaryOperator) (a b : Value) (env : Env) → is_object a ≡ false → is_object b ≡ false → Shortens (arithmetic_values op a b env) (arithmetic_second op (primitive_number a) env (primitive_number b))
arithmetic_shortens op a b env p q = shorten_trans _ _ _ (number_shortens a env (arithmetic_first op b env) p) (number_shortens b env (arithmetic_second op (primitive_number a) env) q)

pub add_shortens : (a b : Value) (env : Env) → is_object a ≡ false → is_object b ≡ false → Shortens (add_values a b env) (add_second a env b)
add_shortens a b env p q = shorten_trans _ _ _ (primitive_shortens HintNumber a env (add_first b env) p) (primitive_shortens HintNumber b env (add_second a env) q)

pub compare_shortens : (op : BinaryOperator) (a b : Value) (env : Env) → is_object a ≡ false → is_object b ≡ false → Shortens (compare_values op a b env) (compare_second op a b)
compare_shortens op a b env p q = shorten_trans _ _ _ (primitive_shortens HintNumber a env (compare_first op b env) p) (primitive_shortens HintNumber b env (compare_second op a) q)

-- ---- two numbers

calculation_is : (op : BinaryOperator) (a b : Value) (env : Env) → is_calculation op ≡ true → operate op a b env ≡ arithmetic_values op a b env
calculation_is binary.Multiply a b env k = refl
calculation_is binary.Divide a b env k = refl
calculation_is binary.Remainder a b env k = refl
calculation_is binary.Subtract a b env k = refl
calculation_is binary.ShiftLeft a b env k = refl
calculation_is binary.ShiftRight a b env k = refl
calculation_is binary.ShiftRightUnsigned a b env k = refl
calculation_is binary.BitAnd a b env k = refl
calculation_is binary.BitXor a b env k = refl
calculation_is binary.BitOr a b env k = refl
calculation_is _ a b env k = absurd cc

-- a result that is a number is given at once
pub calculation_gives : (op : BinaryOperator) (x y z : Whole) (env : Env) → is_calculation op ≡ true → arithmetic op x y ≡ Ok z → Shortens (operate op (Number x) (Number y) env) (give (Number z))
calculation_gives op x y z env k e = rw (calculation_is op (Number x) (Number y) env k) (let P : Result Whole NumFault → Type 0 = λ r. Shortens (arithmetic_values op (Number x) (Number y) env) (give_result r env) in subst P e (arithmetic_shortens op (Number x) (Number y) env refl refl))

pub sum_gives : (x y z : Whole) (env : Env) → sum x y ≡ Ok z → Shortens (operate binary.Add (Number x) (Number y) env) (give (Number z))
sum_gives x y z env e = let P : Result Whole NumFault → Type 0 = λ r. Shortens (add_values (Number x) (Number y) env) (give_result r env) in subst P e (add_shortens (Number x) (Number y) env refl refl)

-- ---- two values of one kind

pub equal_both : (a b : Value) (env : Env) (go : Bool → Act) → is_object a ≡ true → is_object b ≡ true → equal_values a b env go ≡ go (strictly_equal a b)
equal_both (Object o) (Object p) env go h k = refl
equal_both a b env go h k = absurd cc

pub equal_neither : (a b : Value) (env : Env) (go : Bool → Act) → is_object a ≡ false → is_object b ≡ false → equal_values a b env go ≡ go (loosely_equal a b)
equal_neither (Object o) b env go h k = absurd cc
equal_neither a (Object o) env go h k = absurd cc
equal_neither a b env go h k = refl

-- undefined and null are equal to no object
pub equal_nullish : (a b : Value) (env : Env) (go : Bool → Act) → is_object a ≡ true → is_nullish b ≡ true → equal_values a b env go ≡ go false
equal_nullish (Object o) Undefined env go h k = refl
equal_nullish (Object o) Null env go h k = refl
equal_nullish a b env go h k = absurd cc

pub nullish_equal : (a b : Value) (env : Env) (go : Bool → Act) → is_nullish a ≡ true → is_object b ≡ true → equal_values a b env go ≡ go false
nullish_equal Undefined (Object o) env go h k = refl
nullish_equal Null (Object o) env go h k = refl
nullish_equal a b env go h k = absurd cc

-- ---- operators before an operand

pub prefix_is : (op : PrefixOperator) (e : ℕ) (env : Env) → is_of_value op ≡ true → prefix_of op e env ≡ Eval (AtExpr e) env (then_value (after_prefix op env))
prefix_is prefix.Void e env k = refl
prefix_is prefix.Plus e env k = refl
prefix_is prefix.Minus e env k = refl
prefix_is prefix.BitNot e env k = refl
prefix_is prefix.Not e env k = refl
prefix_is _ e env k = absurd cc

-- of a number
pub plus_ends : (x : Whole) (env : Env) → Shortens (after_prefix prefix.Plus env (Number x)) (give (Number x))
plus_ends x env = primitive_shortens HintNumber (Number x) env number_of_primitive refl

pub minus_shortens : (x : Whole) (env : Env) → Shortens (after_prefix prefix.Minus env (Number x)) (minus_number x)
minus_shortens x env = number_shortens (Number x) env minus_number refl

pub complement_shortens : (x : Whole) (env : Env) → Shortens (after_prefix prefix.BitNot env (Number x)) (complement_number x)
complement_shortens x env = number_shortens (Number x) env complement_number refl

-- ---- `&&`, `||` and conditions

pub left_is_held : (op : BinaryOperator) (r : ℕ) (env : Env) (a : Value) → (op ≡ binary.And → ⊥) → (op ≡ binary.Or → ⊥) → binary_left op r env a ≡ Eval (AtExpr r) env (then_value (binary_right op a env))
left_is_held binary.And r env a n m = absurd (n refl)
left_is_held binary.Or r env a n m = absurd (m refl)
left_is_held op r env a n m = refl

module _ (r : ℕ) (env : Env) (v : Value) where
  pub and_goes_on : to_boolean v ≡ true → and_left r env v ≡ Eval (AtExpr r) env Ret
  and_goes_on e = ap (λ (b : Bool). elim b [ true ↦ Eval (AtExpr r) env Ret | false ↦ give v ]) e

  pub and_ends : to_boolean v ≡ false → and_left r env v ≡ give v
  and_ends e = ap (λ (b : Bool). elim b [ true ↦ Eval (AtExpr r) env Ret | false ↦ give v ]) e

  pub or_ends : to_boolean v ≡ true → or_left r env v ≡ give v
  or_ends e = ap (λ (b : Bool). elim b [ true ↦ give v | false ↦ Eval (AtExpr r) env Ret ]) e

  pub or_goes_on : to_boolean v ≡ false → or_left r env v ≡ Eval (AtExpr r) env Ret
  or_goes_on e = ap (λ (b : Bool). elim b [ true ↦ give v | false ↦ Eval (AtExpr r) env Ret ]) e

pub yes_is : (a b : ℕ) (env : Env) (v : Value) → to_boolean v ≡ true → cond_test a b env v ≡ Eval (AtExpr a) env Ret
yes_is a b env v e = ap (λ (x : Bool). elim x [ true ↦ Eval (AtExpr a) env Ret | false ↦ Eval (AtExpr b) env Ret ]) e

pub no_is : (a b : ℕ) (env : Env) (v : Value) → to_boolean v ≡ false → cond_test a b env v ≡ Eval (AtExpr b) env Ret
no_is a b env v e = ap (λ (x : Bool). elim x [ true ↦ Eval (AtExpr a) env Ret | false ↦ Eval (AtExpr b) env Ret ]) e
