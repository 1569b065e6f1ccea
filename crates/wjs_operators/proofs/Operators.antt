-- The lines of operators by what they do with two values (ECMA-262, 3rd edition, sections 11.5 to 11.10).
use Rattle.std.proofs.Common.{◌≡◌, Bool, true, false, refl, sym, ap}
use Rattle.wjs_base.specs.declared.number.Whole.{Whole as NumberedWhole}
use Rattle.wjs_base.specs.declared.values.Value.{Value as NumberedValue}
use Rattle.wjs_base.specs.declared.values.Value.TheVariants as values
use Rattle.wjs_base.specs.Text.{Table}
use Rattle.wjs_by_content.specs.Tables.{value_in}
use Rattle.wjs_tree.specs.declared.operators.BinaryOperator.{BinaryOperator}
use Rattle.wjs_tree.specs.declared.operators.BinaryOperator.TheVariants as binary
use Rattle.wjs_by_content.specs.Values.{Value, Whole, Undefined, Null, Boolean, Number, String, Object}
use Rattle.wjs_by_content.specs.Conversions.{is_object}
use Rattle.wjs_meaning.specs.Deeds.{Env, Act, Ret, Completion, Gives, then_value, then_number}
use Rattle.wjs_meaning.specs.NativesOfObjects.{whole_of}
use Rattle.wjs_meaning.specs.Operators.{operate, arithmetic_values, arithmetic_first, arithmetic_second, compare_first, compare_second, equal_primitive, equal_values}
use Rattle.wjs_model.specs.Waiting.{operand_first, operand_second}
use Rattle.wjs_operators.specs.Operating.{is_comparison, is_arithmetic, equality, tells, equal_with}

-- none of the operators whose operands are converted in another way
pub record IsNumeric (op : BinaryOperator) : Type 0 where
  pub add : op ≡ binary.Add → ⊥
  pub less : op ≡ binary.Less → ⊥
  pub greater : op ≡ binary.Greater → ⊥
  pub less_equal : op ≡ binary.LessEqual → ⊥
  pub greater_equal : op ≡ binary.GreaterEqual → ⊥
  pub equal : op ≡ binary.Equal → ⊥
  pub not_equal : op ≡ binary.NotEqual → ⊥
  pub among : op ≡ binary.In → ⊥

numeric_is : (op : BinaryOperator) → IsNumeric op → is_arithmetic op ≡ true
numeric_is binary.Add n = absurd (n.add refl)
numeric_is binary.Less n = absurd (n.less refl)
numeric_is binary.Greater n = absurd (n.greater refl)
numeric_is binary.LessEqual n = absurd (n.less_equal refl)
numeric_is binary.GreaterEqual n = absurd (n.greater_equal refl)
numeric_is binary.Equal n = absurd (n.equal refl)
numeric_is binary.NotEqual n = absurd (n.not_equal refl)
numeric_is binary.In n = absurd (n.among refl)
numeric_is op n = refl

-- what waits for the conversion of the first operand, and of the second

pub first_arithmetic : (op : BinaryOperator) (v : Value) (env : Env) → is_arithmetic op ≡ true → operand_first op v env ≡ then_number (arithmetic_first op v env)
first_arithmetic binary.Add v env k = absurd cc
first_arithmetic binary.Less v env k = absurd cc
first_arithmetic binary.Greater v env k = absurd cc
first_arithmetic binary.LessEqual v env k = absurd cc
first_arithmetic binary.GreaterEqual v env k = absurd cc
first_arithmetic binary.Equal v env k = absurd cc
first_arithmetic binary.NotEqual v env k = absurd cc
first_arithmetic binary.In v env k = absurd cc
first_arithmetic op v env k = refl

pub second_arithmetic : (op : BinaryOperator) (v : Value) (env : Env) → is_arithmetic op ≡ true → operand_second op v env ≡ then_number (arithmetic_second op (whole_of v) env)
second_arithmetic binary.Add v env k = absurd cc
second_arithmetic binary.Less v env k = absurd cc
second_arithmetic binary.Greater v env k = absurd cc
second_arithmetic binary.LessEqual v env k = absurd cc
second_arithmetic binary.GreaterEqual v env k = absurd cc
second_arithmetic binary.Equal v env k = absurd cc
second_arithmetic binary.NotEqual v env k = absurd cc
second_arithmetic binary.In v env k = absurd cc
second_arithmetic op v env k = refl

pub first_comparison : (op : BinaryOperator) (v : Value) (env : Env) → is_comparison op ≡ true → operand_first op v env ≡ then_value (compare_first op v env)
first_comparison binary.Less v env k = refl
first_comparison binary.Greater v env k = refl
first_comparison binary.LessEqual v env k = refl
first_comparison binary.GreaterEqual v env k = refl
first_comparison _ v env k = absurd cc

pub second_comparison : (op : BinaryOperator) (v : Value) (env : Env) → is_comparison op ≡ true → operand_second op v env ≡ then_value (compare_second op v)
second_comparison binary.Less v env k = refl
second_comparison binary.Greater v env k = refl
second_comparison binary.LessEqual v env k = refl
second_comparison binary.GreaterEqual v env k = refl
second_comparison _ v env k = absurd cc

pub first_equality : (negated : Bool) (v : Value) (env : Env) → operand_first (equality negated) v env ≡ then_value (equal_primitive v (tells negated))
first_equality true v env = refl
first_equality false v env = refl

-- an operator that has no row of its own there
module _ (v : Value) (env : Env) (e : Completion) where
  pub first_calculates : (op : BinaryOperator) → IsNumeric op → then_number (arithmetic_first op v env) e ≡ operand_first op v env e
  first_calculates op n = ap (λ (go : Completion → Act). go e) (sym (first_arithmetic op v env (numeric_is op n)))

  pub second_calculates : (op : BinaryOperator) → IsNumeric op → then_number (arithmetic_second op (whole_of v) env) e ≡ operand_second op v env e
  second_calculates op n = ap (λ (go : Completion → Act). go e) (sym (second_arithmetic op v env (numeric_is op n)))

-- an object against another value
pub equal_left : (a b : Value) (env : Env) (go : Bool → Act) → is_object a ≡ true → is_object b ≡ false → equal_values a b env go ≡ equal_with a b env go
equal_left (Object o) Undefined env go h k = refl
equal_left (Object o) Null env go h k = refl
equal_left (Object o) (Boolean b) env go h k = refl
equal_left (Object o) (Number x) env go h k = refl
equal_left (Object o) (String t) env go h k = refl
equal_left a b env go h k = absurd cc

pub equal_right : (a b : Value) (env : Env) (go : Bool → Act) → is_object a ≡ false → is_object b ≡ true → equal_values a b env go ≡ equal_with b a env go
equal_right Undefined (Object o) env go h k = refl
equal_right Null (Object o) env go h k = refl
equal_right (Boolean b) (Object o) env go h k = refl
equal_right (Number x) (Object o) env go h k = refl
equal_right (String t) (Object o) env go h k = refl
equal_right a b env go h k = absurd cc

-- ---- what waits for a number

-- a value that is none passes
pub number_passes : (go : Whole → Act) (t : Table) (v : NumberedValue) → ((x : NumberedWhole) → v ≡ values.Number x → ⊥) → Ret (Gives (value_in t v)) ≡ then_number go (Gives (value_in t v))
number_passes go t values.Undefined n = refl
number_passes go t values.Null n = refl
number_passes go t (values.Bool b) n = refl
number_passes go t (values.Number x) n = absurd (n x refl)
number_passes go t (values.Text id) n = refl
number_passes go t (values.Object o) n = refl

-- ---- which line an operator has

-- no operator that has a line of its own
pub record Calculates (op : BinaryOperator) : Type 0 where
  pub add : op ≡ binary.Add → ⊥
  pub less : op ≡ binary.Less → ⊥
  pub greater : op ≡ binary.Greater → ⊥
  pub less_equal : op ≡ binary.LessEqual → ⊥
  pub greater_equal : op ≡ binary.GreaterEqual → ⊥
  pub instance_of : op ≡ binary.Instanceof → ⊥
  pub among : op ≡ binary.In → ⊥
  pub equal : op ≡ binary.Equal → ⊥
  pub not_equal : op ≡ binary.NotEqual → ⊥
  pub strict_equal : op ≡ binary.StrictEqual → ⊥
  pub strict_not_equal : op ≡ binary.StrictNotEqual → ⊥

pub calculates_is : (op : BinaryOperator) (a b : Value) (env : Env) → Calculates op → arithmetic_values op a b env ≡ operate op a b env
calculates_is binary.Add a b env n = absurd (n.add refl)
calculates_is binary.Less a b env n = absurd (n.less refl)
calculates_is binary.Greater a b env n = absurd (n.greater refl)
calculates_is binary.LessEqual a b env n = absurd (n.less_equal refl)
calculates_is binary.GreaterEqual a b env n = absurd (n.greater_equal refl)
calculates_is binary.Instanceof a b env n = absurd (n.instance_of refl)
calculates_is binary.In a b env n = absurd (n.among refl)
calculates_is binary.Equal a b env n = absurd (n.equal refl)
calculates_is binary.NotEqual a b env n = absurd (n.not_equal refl)
calculates_is binary.StrictEqual a b env n = absurd (n.strict_equal refl)
calculates_is binary.StrictNotEqual a b env n = absurd (n.strict_not_equal refl)
calculates_is op a b env n = refl
