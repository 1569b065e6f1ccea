-- What a frame does with the completion that it waited for: for each point the named continuation of the meaning.
use Rattle.std.specs.Prelude.{ℕ, ◌+◌, ◌-◌, Bool, true, false, List, [], ◌∷◌, ◌++◌, length, drop, take, Option, None, Some}
use Rattle.wjs_tree.specs.declared.operators.BinaryOperator.{BinaryOperator}
use Rattle.wjs_tree.specs.declared.operators.BinaryOperator.TheVariants as binary
use Rattle.wjs_tree.specs.Operators.{compound}
use Rattle.wjs_arena.specs.declared.native.Native.{Native}
use Rattle.wjs_by_content.specs.Values.{Text, Value, Undefined, Object}
use Rattle.wjs_by_content.specs.Names.{Slot, slot, index_name}
use Rattle.wjs_meaning.specs.declared.trouble.Trouble.TheVariants.{NoPrimitiveValue}
use Rattle.wjs_meaning.specs.Reading.{number}
use Rattle.wjs_meaning.specs.Trees.{Node, Key, elements_of, name_place}
use Rattle.wjs_meaning.specs.Deeds.{Env, Act, Ret, Eval, Sub, Do, Write, AtProgram, Reference, Completion, Refers, Normal, Throws, then_value, then_number, then_text, then_reference, then_normal, tree_here}
use Rattle.wjs_meaning.specs.Errors.{throw}
use Rattle.wjs_meaning.specs.NativesOfObjects.{whole_of}
use Rattle.wjs_meaning.specs.Conversions.{Hint, HintString, HintNumber, second_method, try_method, method_result, number_of_primitive, text_of_primitive, integer_of_primitive}
use Rattle.wjs_meaning.specs.References.{reference_at, store}
use Rattle.wjs_meaning.specs.Functions.{body_next, body_from, program_from}
use Rattle.wjs_meaning.specs.Operators.{give_truth, give_opposite, not_value, arithmetic_first, arithmetic_second, add_first, add_second, compare_first, compare_second, equal_primitive, in_name}
use Rattle.wjs_meaning.specs.Constructions.{new_result, construct}
use Rattle.wjs_meaning.specs.Expressions.{Fix, Post, Pre, dot_base, at_base, at_index, at_name, give_value_of, array_from, key_name, object_from, values_from, call_values, call_callee, call_reference, new_callee, update_reference, update_number, delete_reference, delete_value, typeof_reference, typeof_value, void_value, plus_value, minus_value, minus_number, complement_value, complement_number, binary_left, binary_right, cond_test, assign_reference, assign_value, compound_value, comma_left}
use Rattle.wjs_meaning.specs.Loops.{Taker, after_body, loop_body, loop_test, loop_from, loop_updated, for_started, do_body, do_test, for_in_value, visit_body, visits_from}
use Rattle.wjs_by_content.specs.Conversions.{strictly_equal}
use Rattle.wjs_meaning.specs.Statements.{block_from, vars_from, expr_done, if_test, return_value, throw_value, label_done, statements_of, switch_next, switch_from, switch_cases, switch_value, finally_done, try_finally, try_block, within_value}
use Rattle.wjs_meaning.specs.Kinds.{with_kinds}
use Rattle.wjs_meaning.specs.Natives.{kinds, kind_of_this, convert_from}
use Rattle.wjs_model.specs.declared.point.Purpose.{Purpose}
use Rattle.wjs_model.specs.declared.point.Purpose.TheVariants as purposes
use Rattle.wjs_model.specs.declared.point.Hint.{Hint as NumberedHint}
use Rattle.wjs_model.specs.declared.point.Hint.TheVariants as hints
use Rattle.wjs_model.specs.declared.point.Fix.{Fix as NumberedFix}
use Rattle.wjs_model.specs.declared.point.Fix.TheVariants as fixes
use Rattle.wjs_model.specs.declared.point.ExprPoint.{ExprPoint}
use Rattle.wjs_model.specs.declared.point.ExprPoint.TheVariants as expr
use Rattle.wjs_model.specs.declared.point.StmtPoint.{StmtPoint}
use Rattle.wjs_model.specs.declared.point.StmtPoint.TheVariants as stmt
use Rattle.wjs_model.specs.declared.point.CallPoint.{CallPoint}
use Rattle.wjs_model.specs.declared.point.CallPoint.TheVariants as call
use Rattle.wjs_model.specs.declared.point.Point.{Point}
use Rattle.wjs_model.specs.declared.point.Point.TheVariants as points
use Rattle.wjs_model.specs.Contents.{Holding}
use Rattle.wjs_model.specs.Lists.{items_of, pairs_of, arguments_of, variables_of, block_items, clauses_of, program_elements, if_dot, if_label, if_visits, if_for, handler_of}

-- what the enums of the code mean

abbrev pub fix_in : NumberedFix → Fix
fix_in fixes.Post = Post
fix_in fixes.Pre = Pre

abbrev pub hint_in : NumberedHint → Hint
hint_in hints.Text = HintString
hint_in hints.Number = HintNumber

-- ---- members (11.2.1)

-- what a reference is taken for
abbrev pub Taking : Type 0
Taking = Reference → Act

-- a target's reference is its completion
abbrev pub refer : Taking
refer r = Ret (Refers r)

abbrev pub taken : Purpose → Env → Taking
taken purposes.Value env = give_value_of env
taken purposes.Target env = refer

-- ---- operators on two values (11.5 to 11.10): after the conversion of the first, with the second held, and after that of the second, with what the first became held

-- the right side of `in` is held
abbrev pub in_right : Value → Env → Text → Act
in_right (Object o) env name = in_name o env name
in_right base env name = Ret Normal

abbrev pub operand_first : BinaryOperator → Value → Env → Completion → Act
operand_first binary.Add v env = then_value (add_first v env)
operand_first binary.Less v env = then_value (compare_first binary.Less v env)
operand_first binary.Greater v env = then_value (compare_first binary.Greater v env)
operand_first binary.LessEqual v env = then_value (compare_first binary.LessEqual v env)
operand_first binary.GreaterEqual v env = then_value (compare_first binary.GreaterEqual v env)
operand_first binary.Equal v env = then_value (equal_primitive v give_truth)
operand_first binary.NotEqual v env = then_value (equal_primitive v give_opposite)
operand_first binary.In v env = then_text (in_right v env)
operand_first op v env = then_number (arithmetic_first op v env)

abbrev pub operand_second : BinaryOperator → Value → Env → Completion → Act
operand_second binary.Add v env = then_value (add_second v env)
operand_second binary.Less v env = then_value (compare_second binary.Less v)
operand_second binary.Greater v env = then_value (compare_second binary.Greater v)
operand_second binary.LessEqual v env = then_value (compare_second binary.LessEqual v)
operand_second binary.GreaterEqual v env = then_value (compare_second binary.GreaterEqual v)
operand_second binary.Equal v env = then_value (equal_primitive v give_truth)
operand_second binary.NotEqual v env = then_value (equal_primitive v give_opposite)
operand_second binary.In v env = then_text (in_right v env)
operand_second op v env = then_number (arithmetic_second op (whole_of v) env)

-- ---- expressions (11)

-- the rest of an array's items, after the value of item i
abbrev pub array_rest : Value → List (Option ℕ) → ℕ → Env → Value → Act
array_rest (Object o) items i env v = Do (Write env.world (slot o (index_name i)) (Some v)) (λ done. array_from items (i + 1) o env)
array_rest base items i env v = Ret Normal

-- the rest of an object's pairs, after the value of the first of them
abbrev pub object_rest : Value → List (Key × ℕ) → Env → Value → Act
object_rest (Object o) (x ∷ xs) env v = Do (Write env.world (slot o (key_name x.0)) (Some v)) (λ done. object_from xs o env)
object_rest base xs env v = Ret Normal

-- after the call of `new`, with the new object held
abbrev pub new_made : Value → Value → Act
new_made (Object o) v = new_result o v
new_made base v = Ret Normal

-- the item of this number of an array, written to the array that is held
abbrev pub array_item : List (Option ℕ) → ℕ → Holding → Env → Value → Act
array_item items i held env v = array_rest held.value (drop (i + 1) items) i env v

-- the value of the pair of this number
abbrev pub object_item : List (Key × ℕ) → ℕ → Holding → Env → Value → Act
object_item pairs i held env v = object_rest held.value (drop i pairs) env v

-- the argument of this number of a call
abbrev pub call_argument : List ℕ → ℕ → Holding → Env → Value → Act
call_argument args i held env v = values_from (drop (i + 1) args) (held.values ++ v ∷ []) env (call_values held.callee.0 held.callee.1 env)

-- the argument of this number of `new`
abbrev pub new_argument : List ℕ → ℕ → Holding → Env → Value → Act
new_argument args i held env v = values_from (drop (i + 1) args) (held.values ++ v ∷ []) env (construct held.callee.0 env)

abbrev pub after_expr : ExprPoint → Node → Holding → Env → Completion → Act
after_expr (expr.ArrayItem i) node held env = then_value (array_item (items_of node) i held env)
after_expr (expr.PairValue i) node held env = then_value (object_item (pairs_of node) i held env)
after_expr (expr.DotBase purpose) node held env = then_value (λ v. if_dot node (λ name. dot_base name env (taken purpose env) v))
after_expr (expr.IndexBase purpose i) node held env = then_value (at_base i.0 env (taken purpose env))
after_expr (expr.Index purpose) node held env = then_value (at_index held.value env (taken purpose env))
after_expr (expr.IndexName purpose) node held env = then_text (at_name held.value (taken purpose env))
after_expr expr.CalleeTarget node held env = then_reference (call_reference (arguments_of node) env)
after_expr expr.CalleeValue node held env = then_value (call_callee (arguments_of node) Undefined env)
after_expr (expr.Argument i) node held env = then_value (call_argument (arguments_of node) i held env)
after_expr expr.NewCallee node held env = then_value (new_callee (arguments_of node) env)
after_expr (expr.NewArgument i) node held env = then_value (new_argument (arguments_of node) i held env)
after_expr expr.NewCall node held env = then_value (new_made held.value)
after_expr (expr.UpdateTarget fix op) node held env = then_reference (update_reference (fix_in fix) op env)
after_expr (expr.UpdateNumber fix op) node held env = then_number (update_number (fix_in fix) op env held.reference)
after_expr expr.DeleteTarget node held env = then_reference (delete_reference env)
after_expr expr.DeleteValue node held env = then_value delete_value
after_expr expr.TypeofTarget node held env = then_reference (typeof_reference env)
after_expr expr.TypeofValue node held env = then_value typeof_value
after_expr expr.VoidValue node held env = then_value void_value
after_expr expr.NotValue node held env = then_value not_value
after_expr expr.PlusValue node held env = then_value (plus_value env)
after_expr expr.PlusPrimitive node held env = then_value number_of_primitive
after_expr expr.MinusValue node held env = then_value (minus_value env)
after_expr expr.MinusNumber node held env = then_number minus_number
after_expr expr.ComplementValue node held env = then_value (complement_value env)
after_expr expr.ComplementNumber node held env = then_number complement_number
after_expr (expr.BinaryLeft op right) node held env = then_value (binary_left op right.0 env)
after_expr (expr.BinaryRight op) node held env = then_value (binary_right op held.value env)
after_expr (expr.OperandFirst op) node held env = operand_first op held.value env
after_expr (expr.OperandSecond op) node held env = operand_second op held.value env
after_expr (expr.CondTest one other) node held env = then_value (cond_test one.0 other.0 env)
after_expr (expr.AssignTarget sign right) node held env = then_reference (assign_reference (compound sign) right.0 env)
after_expr expr.AssignValue node held env = then_value (assign_value held.reference env)
after_expr (expr.CompoundValue op) node held env = then_value (compound_value op held.value held.reference env)
after_expr (expr.CommaLeft right) node held env = then_value (comma_left right.0 env)

-- ---- statements (12)

-- the first variable's value, stored to its name; then come the others
abbrev pub store_variable : ℕ → List (Text × Option ℕ) → ℕ → Env → Value → Act
store_variable here [] i env v = Ret Normal
store_variable here (x ∷ xs) i env v = reference_at (name_place (tree_here env) here i) x.0 env (λ r. store r v env (vars_from here (i + 1) xs env))

-- the reference that takes the name of the first visit
abbrev pub visit_taken : ℕ → Taker → ℕ → List Slot → Env → Reference → Act
visit_taken here taker s [] env r = Ret Normal
visit_taken here taker s (x ∷ xs) env r = visit_body here s x.name env (visits_from here taker s xs env) r

-- after a case's value: its statements and those of the clauses after it, or the next cases
abbrev pub after_case : Value → List (Option ℕ × List ℕ) → List (Option ℕ × List ℕ) → Env → Value → Act
after_case v all [] env w = Ret Normal
after_case v all (x ∷ xs) env w = elim (strictly_equal v w) [
  | true ↦ switch_from (x.1 ++ statements_of xs) env
  | false ↦ switch_cases v all xs env
]

-- the initialiser of this number, stored to its name
abbrev pub after_variable : ℕ → List (Text × Option ℕ) → ℕ → Env → Value → Act
after_variable here xs i env v = store_variable here (drop i xs) i env v

-- after the expression of a statement: its value is dropped, and what follows the statement goes on
abbrev pub after_dropped : (Completion → Act) → Completion → Act
after_dropped go c = Sub (then_value expr_done c) go

abbrev pub after_stmt : StmtPoint → ℕ → Node → Holding → Env → Completion → Act
after_stmt (stmt.BlockStatement i) here node held env = then_normal (block_from (drop i (block_items node)) env)
after_stmt (stmt.BlockValue i) here node held env = after_dropped (then_normal (block_from (drop i (block_items node)) env))
after_stmt (stmt.VariableValue i) here node held env = then_value (after_variable here (variables_of node) i env)
after_stmt stmt.ExprValue here node held env = then_value expr_done
after_stmt (stmt.IfTest one other) here node held env = then_value (if_test one.0 (number other) env)
after_stmt (stmt.DoBody test) here node held env = do_body here test.0 env
after_stmt stmt.DoTest here node held env = then_value (do_test here env)
after_stmt (stmt.WhileTest body) here node held env = then_value (loop_test here None body.0 env)
after_stmt stmt.WhileBody here node held env = loop_body here None env
after_stmt stmt.ForFirst here node held env = then_value (λ v. if_for node (λ t u body. for_started here t u body env v))
after_stmt stmt.ForVariables here node held env = then_normal (if_for node (λ t u body. loop_from here t u body env))
after_stmt (stmt.ForTest u body) here node held env = then_value (loop_test here (number u) body.0 env)
after_stmt (stmt.ForBody u) here node held env = loop_body here (number u) env
after_stmt stmt.ForUpdate here node held env = then_value (loop_updated here env)
after_stmt (stmt.VisitsObject body) here node held env = then_value (λ v. if_visits node (λ taker. for_in_value here taker body.0 env v))
after_stmt (stmt.VisitTarget body) here node held env = then_reference (λ r. if_visits node (λ taker. visit_taken here taker body.0 held.visits env r))
after_stmt (stmt.VisitBody body) here node held env = λ c. if_visits node (λ taker. after_body here env (visits_from here taker body.0 held.visits env) c)
after_stmt stmt.ReturnValue here node held env = then_value return_value
after_stmt stmt.ThrowValue here node held env = then_value throw_value
after_stmt stmt.LabelBody here node held env = λ c. if_label node (λ name. label_done name c)
after_stmt stmt.SwitchValue here node held env = then_value (switch_value (clauses_of node) env)
after_stmt (stmt.CaseValue i) here node held env = then_value (after_case held.value (clauses_of node) (drop i (clauses_of node)) env)
after_stmt (stmt.ClauseStatement i) here node held env = switch_next (switch_from (drop i (statements_of (clauses_of node))) env)
after_stmt (stmt.TryBlock last) here node held env = try_block (handler_of node) (number last) env
after_stmt (stmt.TryHandler last) here node held env = try_finally (number last) env
after_stmt stmt.TryFinally here node held env = finally_done held.earlier
after_stmt (stmt.WithinWorld block) here node held env = then_value (within_value block.0 env)

-- ---- bodies, conversions and natives

-- a program's body that waits for the program before it
abbrev pub next_program : Env → Completion → Act
next_program env (Throws v) = Ret (Throws v)
next_program env c = Eval AtProgram env Ret

-- after the first method of an object: a primitive, or the second method
abbrev pub after_first : Hint → Value → Env → Value → Act
after_first hint (Object o) env v = method_result (try_method (second_method hint) o env (throw NoPrimitiveValue env)) v
after_first hint base env v = method_result (throw NoPrimitiveValue env) v

abbrev pub after_call : CallPoint → Node → Holding → Env → Completion → Act
after_call call.NextProgram node held env = next_program env
after_call (call.ProgramElement i) node held env = then_normal (program_from (drop i (program_elements node)) env)
after_call (call.BodyElement i) node held env = body_next (body_from (drop i (elements_of node)) env)
after_call (call.ProgramValue i) node held env = after_dropped (then_normal (program_from (drop i (program_elements node)) env))
after_call (call.BodyValue i) node held env = after_dropped (body_next (body_from (drop i (elements_of node)) env))
after_call (call.FirstMethod hint) node held env = then_value (after_first (hint_in hint) held.value env)
after_call call.SecondMethod node held env = then_value (method_result (throw NoPrimitiveValue env))
after_call call.NumberOfPrimitive node held env = then_value number_of_primitive
after_call call.TextOfPrimitive node held env = then_value text_of_primitive
after_call call.IntegerOfPrimitive node held env = then_value integer_of_primitive

-- after the conversion of `this` or of an argument of a native function, all of which are held, `this` first
abbrev pub after_argument : Native → Bool → List Value → ℕ → Env → Value → Act
after_argument k new values i env v =
    convert_from k new (drop (i + 1) (with_kinds (kind_of_this k ∷ kinds k (length values - 1)) values)) (take i values ++ v ∷ []) env

-- ---- one line per group

abbrev pub after : Point → ℕ → Node → Holding → Env → Completion → Act
after (points.Expr point) here node held env = after_expr point node held env
after (points.Stmt point) here node held env = after_stmt point here node held env
after (points.Call point) here node held env = after_call point node held env
after (points.Native k new i) here node held env = then_value (after_argument k new held.values i env)
