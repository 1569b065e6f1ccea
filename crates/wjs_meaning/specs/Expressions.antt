-- What each form of expression does, after the step of its entry (ECMA-262, 3rd edition, section 11).
use Rattle.std.specs.Prelude.{ℕ, ◌+◌, true, false, not, if◌then◌else◌, List, [], ◌∷◌, ◌++◌, Option, None, Some, Result, Ok, Err, pos, codes}
use Rattle.wjs_base.specs.declared.ids.ObjId.{ObjId}
use Rattle.wjs_num.specs.declared.arithmetic.NumFault.{NumFault}
use Rattle.wjs_num.specs.Exact.{sum, difference, negative}
use Rattle.wjs_num.specs.Bits.{complement}
use Rattle.wjs_num.specs.Digits.{text_of_number}
use Rattle.wjs_tree.specs.declared.operators.UpdateOperator.{UpdateOperator}
use Rattle.wjs_tree.specs.declared.operators.UpdateOperator.TheVariants as update
use Rattle.wjs_tree.specs.declared.operators.PrefixOperator.{PrefixOperator}
use Rattle.wjs_tree.specs.declared.operators.PrefixOperator.TheVariants as prefix
use Rattle.wjs_tree.specs.declared.operators.BinaryOperator.{BinaryOperator}
use Rattle.wjs_tree.specs.declared.operators.BinaryOperator.TheVariants as binary
use Rattle.wjs_tree.specs.Operators.{compound}
use Rattle.wjs_by_content.specs.Values.{Text, Whole, Value, Undefined, Null, Boolean, Number, String, Object, whole, same_text}
use Rattle.wjs_by_content.specs.Names.{slot, length_name, index_name}
use Rattle.wjs_by_content.specs.Objects.{Arena, function_of, is_callable, world_object}
use Rattle.wjs_meaning.specs.declared.trouble.Trouble.TheVariants.{NotAnObject}
use Rattle.wjs_by_content.specs.Conversions.{to_boolean, is_nullish}
use Rattle.wjs_meaning.specs.Trees.{Node, Key, Spelled, Numeral, Name, NumberLit, TextLit, This, ThisWorld, NullLit, BoolLit, Paren, ArrayLit, ObjectLit, Function, Dot, At, Call, NewWith, NewBare, Postfix, Prefix, Binary, Cond, Assign, Comma, is_target, name_place}
use Rattle.wjs_meaning.specs.Deeds.{Env, Act, Ret, Eval, Sub, Do, Write, Look, Create, AtExpr, AtTarget, Reference, Local, Global, Member, Refers, Normal, give, then_value, then_number, then_text, then_reference, tree_here, node_here}
use Rattle.wjs_meaning.specs.Properties.{get_value, delete}
use Rattle.wjs_meaning.specs.Errors.{throw, trouble_of}
use Rattle.wjs_meaning.specs.NewObjects.{plain_object, array_object}
use Rattle.wjs_meaning.specs.Calls.{call_found}
use Rattle.wjs_meaning.specs.Conversions.{to_number, to_text}
use Rattle.wjs_meaning.specs.References.{reference_at, value_of, store}
use Rattle.wjs_meaning.specs.Functions.{make_function}
use Rattle.wjs_meaning.specs.Operators.{give_truth, not_value, operate}
use Rattle.wjs_meaning.specs.Constructions.{construct}

-- ---- references (11.1.2, 11.2.1)

-- after the base of a Dot
abbrev pub dot_base : Text → Env → (Reference → Act) → Value → Act
dot_base name env go base = elim (is_nullish base) [ true ↦ throw NotAnObject env | false ↦ go (Member base name) ]

-- after ToString of an index
abbrev pub at_name : Value → (Reference → Act) → Text → Act
at_name base go name = go (Member base name)

-- after the index of an At
abbrev pub at_index : Value → Env → (Reference → Act) → Value → Act
at_index base env go i = elim (is_nullish base) [ true ↦ throw NotAnObject env | false ↦ Sub (to_text i env) (then_text (at_name base go)) ]

-- after the base of an At
abbrev pub at_base : ℕ → Env → (Reference → Act) → Value → Act
at_base i env go base = Eval (AtExpr i) env (then_value (at_index base env go))

-- the reference of a Name, a Dot or an At
abbrev pub reference_of : ℕ → Node → Env → (Reference → Act) → Act
reference_of here (Name name) env go = reference_at (name_place (tree_here env) here 0) name env go
reference_of here (Dot e name) env go = Eval (AtExpr e) env (then_value (dot_base name env go))
reference_of here (At e i) env go = Eval (AtExpr e) env (then_value (at_base i env go))
reference_of here _ env go = Ret Normal

-- an expression as a target; a Paren passes a reference on (11.1.6)
abbrev pub target_of : ℕ → Node → Env → Act
target_of here (Paren e) env = Eval (AtTarget e) env Ret
target_of here node env = reference_of here node env (λ r. Ret (Refers r))

-- ends with the value of a reference
abbrev pub give_value_of : Env → Reference → Act
give_value_of env r = value_of r env give

-- an operand that is a target is entered as one
abbrev pub operand : ℕ → Env → (Reference → Act) → (Value → Act) → Act
operand e env by_reference by_value = elim (is_target (tree_here env) e) [ true ↦ Eval (AtTarget e) env (then_reference by_reference) | false ↦ Eval (AtExpr e) env (then_value by_value) ]

-- ---- `thisWorld`

-- the World object of a world
abbrev pub give_world : Option ObjId → Act
give_world None = give Undefined
give_world (Some o) = give (Object o)

-- ---- literals of arrays and objects (11.1.4, 11.1.5)

-- the items from place i on, and then `length`
abbrev pub array_from : List (Option ℕ) → ℕ → ObjId → Env → Act
array_from [] i o env = Do (Write env.world (slot o length_name) (Some (whole i))) (λ done. give (Object o))
array_from (None ∷ items) i o env = array_from items (i + 1) o env
array_from (Some e ∷ items) i o env = Eval (AtExpr e) env (then_value (λ v. Do (Write env.world (slot o (index_name i)) (Some v)) (λ done. array_from items (i + 1) o env)))

-- the name of a key
abbrev pub key_name : Key → Text
key_name (Spelled t) = t
key_name (Numeral x) = text_of_number 10 x

-- the pairs in order
abbrev pub object_from : List (Key × ℕ) → ObjId → Env → Act
object_from [] o env = give (Object o)
object_from (x ∷ xs) o env = Eval (AtExpr x.1) env (then_value (λ v. Do (Write env.world (slot o (key_name x.0)) (Some v)) (λ done. object_from xs o env)))

-- ---- calls and `new` (11.2.2 to 11.2.4)

-- the values of expressions from left to right
abbrev pub values_from : List ℕ → List Value → Env → (List Value → Act) → Act
values_from [] vs env go = go vs
values_from (e ∷ es) vs env go = Eval (AtExpr e) env (then_value (λ v. values_from es (vs ++ v ∷ []) env go))

-- after the arguments
abbrev pub call_values : Value → Value → Env → List Value → Act
call_values f this env vs = Do Look (λ arena. call_found (function_of arena f) this vs env)

-- after the value of the callee
abbrev pub call_callee : List ℕ → Value → Env → Value → Act
call_callee args this env f = values_from args [] env (call_values f this env)

-- `this` is the base of a member
abbrev pub base_of : Reference → Value
base_of (Member base name) = base
base_of r = Undefined

-- after the reference of the callee
abbrev pub call_reference : List ℕ → Env → Reference → Act
call_reference args env r = value_of r env (call_callee args (base_of r) env)

-- after the callee of `new`
abbrev pub new_callee : List ℕ → Env → Value → Act
new_callee args env f = values_from args [] env (construct f env)

-- ---- `++` and `--` (11.3, 11.4.4, 11.4.5)

-- which number an operator gives: Postfix the old one, Prefix the new one
pub data Fix : Type 0 where
  Post : Fix
  Pre : Fix

abbrev pub given : Fix → Whole → Whole → Whole
given Post old new = old
given Pre old new = new

-- the number after, or before
abbrev pub updated : UpdateOperator → Whole → Result Whole NumFault
updated update.Increment x = sum x (Some (pos 1))
updated update.Decrement x = difference x (Some (pos 1))

-- the store of the new number
abbrev pub update_store : Fix → Env → Reference → Whole → Result Whole NumFault → Act
update_store fix env r x (Ok y) = store r (Number y) env (give (Number (given fix x y)))
update_store fix env r x (Err fault) = throw (trouble_of fault) env

-- after ToNumber
abbrev pub update_number : Fix → UpdateOperator → Env → Reference → Whole → Act
update_number fix op env r x = update_store fix env r x (updated op x)

-- after the value of the target
abbrev pub update_value : Fix → UpdateOperator → Env → Reference → Value → Act
update_value fix op env r v = Sub (to_number v env) (then_number (update_number fix op env r))

-- after the reference of the target
abbrev pub update_reference : Fix → UpdateOperator → Env → Reference → Act
update_reference fix op env r = value_of r env (update_value fix op env r)

-- a target is entered
abbrev pub update_target : Fix → UpdateOperator → ℕ → Env → Act
update_target fix op t env = Eval (AtTarget t) env (then_reference (update_reference fix op env))

-- ---- operators before an operand (11.4)

-- after the reference of what is deleted
abbrev pub delete_reference : Env → Reference → Act
delete_reference env (Local scope name) = give_truth false
delete_reference env (Global name) = delete env.global name env give_truth
delete_reference env (Member (Object o) name) = delete o name env give_truth
delete_reference env (Member (String t) name) = give_truth (not (same_text name length_name))
delete_reference env (Member base name) = give_truth true

-- after a value that is no reference
abbrev pub delete_value : Value → Act
delete_value v = give_truth true

-- the name of a type
abbrev pub type_name : Arena → Value → Text
type_name arena Undefined = codes "undefined"
type_name arena Null = codes "object"
type_name arena (Boolean b) = codes "boolean"
type_name arena (Number x) = codes "number"
type_name arena (String t) = codes "string"
type_name arena (Object o) = if is_callable arena o then codes "function" else codes "object"

-- after the value
abbrev pub typeof_value : Value → Act
typeof_value v = Do Look (λ arena. give (String (type_name arena v)))

-- an absent global name gives `undefined`
abbrev pub typeof_reference : Env → Reference → Act
typeof_reference env (Global name) = get_value env.global name env typeof_value
typeof_reference env r = value_of r env typeof_value

-- after the value
abbrev pub void_value : Value → Act
void_value v = give Undefined

-- after the value
abbrev pub plus_value : Env → Value → Act
plus_value env v = to_number v env

-- after ToNumber
abbrev pub minus_number : Whole → Act
minus_number x = give (Number (negative x))

-- after the value
abbrev pub minus_value : Env → Value → Act
minus_value env v = Sub (to_number v env) (then_number minus_number)

-- after ToNumber
abbrev pub complement_number : Whole → Act
complement_number x = give (Number (Some (complement x)))

-- after the value
abbrev pub complement_value : Env → Value → Act
complement_value env v = Sub (to_number v env) (then_number complement_number)

-- one line per operator
abbrev pub prefix_of : PrefixOperator → ℕ → Env → Act
prefix_of prefix.Delete e env = operand e env (delete_reference env) delete_value
prefix_of prefix.Void e env = Eval (AtExpr e) env (then_value void_value)
prefix_of prefix.Typeof e env = operand e env (typeof_reference env) typeof_value
prefix_of prefix.Increment e env = update_target Pre update.Increment e env
prefix_of prefix.Decrement e env = update_target Pre update.Decrement e env
prefix_of prefix.Plus e env = Eval (AtExpr e) env (then_value (plus_value env))
prefix_of prefix.Minus e env = Eval (AtExpr e) env (then_value (minus_value env))
prefix_of prefix.BitNot e env = Eval (AtExpr e) env (then_value (complement_value env))
prefix_of prefix.Not e env = Eval (AtExpr e) env (then_value not_value)

-- ---- operators between two operands (11.5 to 11.11)

-- after the left of `&&`
abbrev pub and_left : ℕ → Env → Value → Act
and_left r env v = elim (to_boolean v) [ true ↦ Eval (AtExpr r) env Ret | false ↦ give v ]

-- after the left of `||`
abbrev pub or_left : ℕ → Env → Value → Act
or_left r env v = elim (to_boolean v) [ true ↦ give v | false ↦ Eval (AtExpr r) env Ret ]

-- after the right value
abbrev pub binary_right : BinaryOperator → Value → Env → Value → Act
binary_right op a env b = operate op a b env

-- after the left value
abbrev pub binary_left : BinaryOperator → ℕ → Env → Value → Act
binary_left binary.And r env a = and_left r env a
binary_left binary.Or r env a = or_left r env a
binary_left op r env a = Eval (AtExpr r) env (then_value (binary_right op a env))

-- ---- conditions, assignments and commas (11.12 to 11.14)

-- after the test
abbrev pub cond_test : ℕ → ℕ → Env → Value → Act
cond_test a b env v = elim (to_boolean v) [ true ↦ Eval (AtExpr a) env Ret | false ↦ Eval (AtExpr b) env Ret ]

-- after the value that is stored
abbrev pub assign_value : Reference → Env → Value → Act
assign_value r env v = store r v env (give v)

-- after the right value
abbrev pub compound_value : BinaryOperator → Value → Reference → Env → Value → Act
compound_value op old r env v = Sub (operate op old v env) (then_value (assign_value r env))

-- after the value of the reference
abbrev pub compound_old : BinaryOperator → ℕ → Reference → Env → Value → Act
compound_old op e r env old = Eval (AtExpr e) env (then_value (compound_value op old r env))

-- after the reference: `=`, or an operator with `=`
abbrev pub assign_reference : Option BinaryOperator → ℕ → Env → Reference → Act
assign_reference None e env r = Eval (AtExpr e) env (then_value (assign_value r env))
assign_reference (Some op) e env r = value_of r env (compound_old op e r env)

-- after the left
abbrev pub comma_left : ℕ → Env → Value → Act
comma_left b env v = Eval (AtExpr b) env Ret

-- ---- one line per form

abbrev pub expr_of : ℕ → Node → Env → Act
expr_of here (Name name) env = reference_of here (Name name) env (give_value_of env)
expr_of here (NumberLit x) env = give (Number x)
expr_of here (TextLit t) env = give (String t)
expr_of here This env = give env.this
expr_of here ThisWorld env = Do Look (λ arena. give_world (world_object arena env.world))
expr_of here NullLit env = give Null
expr_of here (BoolLit b) env = give (Boolean b)
expr_of here (Paren e) env = Eval (AtExpr e) env Ret
expr_of here (ArrayLit items) env = Do (Create env.owner array_object) (λ o. array_from items 0 o env)
expr_of here (ObjectLit pairs) env = Do (Create env.owner plain_object) (λ o. object_from pairs o env)
expr_of here (Function name formals elements) env = make_function here name env (λ f. give (Object f))
expr_of here (Dot e name) env = reference_of here (Dot e name) env (give_value_of env)
expr_of here (At e i) env = reference_of here (At e i) env (give_value_of env)
expr_of here (Call f args) env = operand f env (call_reference args env) (call_callee args Undefined env)
expr_of here (NewWith f args) env = Eval (AtExpr f) env (then_value (new_callee args env))
expr_of here (NewBare f) env = Eval (AtExpr f) env (then_value (new_callee [] env))
expr_of here (Postfix t op) env = update_target Post op t env
expr_of here (Prefix op e) env = prefix_of op e env
expr_of here (Binary l op r) env = Eval (AtExpr l) env (then_value (binary_left op r env))
expr_of here (Cond c a b) env = Eval (AtExpr c) env (then_value (cond_test a b env))
expr_of here (Assign t op e) env = Eval (AtTarget t) env (then_reference (assign_reference (compound op) e env))
expr_of here (Comma a b) env = Eval (AtExpr a) env (then_value (comma_left b env))
expr_of here _ env = Ret Normal

-- an expression by its number
abbrev pub expr_at : ℕ → Env → Act
expr_at e env = expr_of e (node_here env e) env
