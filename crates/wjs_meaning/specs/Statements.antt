-- What each form of statement does, after the step of its entry (ECMA-262, 3rd edition, section 12).
use Rattle.std.specs.Prelude.{ℕ, ◌+◌, true, false, List, [], ◌∷◌, ◌++◌, Option, None, Some}
use Rattle.wjs_base.specs.declared.ids.WorldId.{WorldId}
use Rattle.wjs_by_content.specs.Values.{Text, Value, Undefined, same_text}
use Rattle.wjs_by_content.specs.Names.{slot}
use Rattle.wjs_by_content.specs.Conversions.{to_boolean, strictly_equal}
use Rattle.wjs_meaning.specs.Trees.{Node, Init, NoInit, InitExpr, InitVar, Block, Var, Expr, If, DoWhile, While, For, ForIn, ForVarIn, Continue, Break, Return, Throw, Label, Switch, Try, Within, name_place}
use Rattle.wjs_meaning.specs.Deeds.{Env, Act, Ret, Eval, Sub, Do, Write, Create, AtExpr, AtStmt, Completion, Normal, Breaks, Continues, Returns, Throws, then_value, then_normal, tree_here, node_here}
use Rattle.wjs_meaning.specs.NewObjects.{scope_object}
use Rattle.wjs_meaning.specs.References.{reference_at, store}
use Rattle.wjs_meaning.specs.WorldValues.{world_of}
use Rattle.wjs_meaning.specs.Expressions.{expr_at}
use Rattle.wjs_meaning.specs.Loops.{loop_body, loop_test, loop_from, for_started, do_body, TargetNode, VarName, for_in_value}

-- ---- blocks, variables, expressions, `if` (12.1 to 12.5)

-- the statements in order
abbrev pub block_from : List ℕ → Env → Act
block_from [] env = Ret Normal
block_from (s ∷ ss) env = Eval (AtStmt s) env (then_normal (block_from ss env))

-- for each initialiser its value, stored to the name; the first name is number i of the node's
abbrev pub vars_from : ℕ → ℕ → List (Text × Option ℕ) → Env → Act
vars_from here i [] env = Ret Normal
vars_from here i ((name, None) ∷ xs) env = vars_from here (i + 1) xs env
vars_from here i ((name, Some e) ∷ xs) env = Eval (AtExpr e) env (then_value (λ v.
    reference_at (name_place (tree_here env) here i) name env (λ r.
    store r v env (vars_from here (i + 1) xs env))))

-- after the value, which is dropped
abbrev pub expr_done : Value → Act
expr_done v = Ret Normal

-- the second part, if there is one
abbrev pub else_of : Option ℕ → Env → Act
else_of None env = Ret Normal
else_of (Some s) env = Eval (AtStmt s) env Ret

-- after the test
abbrev pub if_test : ℕ → Option ℕ → Env → Value → Act
if_test s t env v = elim (to_boolean v) [ true ↦ Eval (AtStmt s) env Ret | false ↦ else_of t env ]

-- ---- the start of a `for` (12.6.3)

abbrev pub for_init : ℕ → Init → Option ℕ → Option ℕ → ℕ → Env → Act
for_init here NoInit t u s env = loop_from here t u s env
for_init here (InitExpr e) t u s env = Eval (AtExpr e) env (then_value (for_started here t u s env))
for_init here (InitVar xs) t u s env = Sub (vars_from here 0 xs env) (then_normal (loop_from here t u s env))

-- ---- jumps and labels (12.7 to 12.9, 12.12, 12.13)

-- after the value
abbrev pub return_value : Value → Act
return_value v = Ret (Returns v)

-- after the value
abbrev pub throw_value : Value → Act
throw_value v = Ret (Throws v)

-- after a labelled statement: a break to the label ends it
abbrev pub label_done : Text → Completion → Act
label_done name (Breaks (Some label)) = elim (same_text label name) [ true ↦ Ret Normal | false ↦ Ret (Breaks (Some label)) ]
label_done name c = Ret c

-- ---- `switch` (12.11)

abbrev pub statements_of : List (Option ℕ × List ℕ) → List ℕ
statements_of [] = []
statements_of (x ∷ xs) = x.1 ++ statements_of xs

-- after a statement of a clause: a break ends the `switch`
abbrev pub switch_next : Act → Completion → Act
switch_next rest Normal = rest
switch_next rest (Breaks None) = Ret Normal
switch_next rest c = Ret c

-- the statements in order
abbrev pub switch_from : List ℕ → Env → Act
switch_from [] env = Ret Normal
switch_from (s ∷ ss) env = Eval (AtStmt s) env (switch_next (switch_from ss env))

-- the clauses from `default` on
abbrev pub from_default : List (Option ℕ × List ℕ) → List (Option ℕ × List ℕ)
from_default [] = []
from_default ((None, ss) ∷ xs) = (None, ss) ∷ xs
from_default ((Some e, ss) ∷ xs) = from_default xs

-- the cases' values in order, up to the first equal one; else `default`
abbrev pub switch_cases : Value → List (Option ℕ × List ℕ) → List (Option ℕ × List ℕ) → Env → Act
switch_cases v all [] env = switch_from (statements_of (from_default all)) env
switch_cases v all ((None, ss) ∷ xs) env = switch_cases v all xs env
switch_cases v all ((Some e, ss) ∷ xs) env = Eval (AtExpr e) env (then_value (λ w. elim (strictly_equal v w) [
  | true ↦ switch_from (ss ++ statements_of xs) env
  | false ↦ switch_cases v all xs env
]))

-- after the value
abbrev pub switch_value : List (Option ℕ × List ℕ) → Env → Value → Act
switch_value clauses env v = switch_cases v clauses clauses env

-- ---- `try` (12.14)

-- after `finally`, whose completion replaces the earlier one where it isn't normal
abbrev pub finally_done : Completion → Completion → Act
finally_done earlier c = then_normal (Ret earlier) c

-- `finally`, if there is one
abbrev pub try_finally : Option ℕ → Env → Completion → Act
try_finally None env earlier = Ret earlier
try_finally (Some f) env earlier = Eval (AtStmt f) env (finally_done earlier)

-- the catch block in a new Scope object with the name written
abbrev pub try_catch : Text → ℕ → Option ℕ → Env → Value → Act
try_catch name h f env v =
    Do (Create env.owner (scope_object env.scope)) (λ s.
    Do (Write env.world (slot s name) (Some v)) (λ done.
    Eval (AtStmt h) (record env { scope = s }) (try_finally f env)))

-- after the block: a throw goes to the handler, if there is one
abbrev pub try_block : Option (Text × ℕ) → Option ℕ → Env → Completion → Act
try_block (Some x) f env (Throws v) = try_catch x.0 x.1 f env v
try_block handler f env c = try_finally f env c

-- ---- `in` (ECOOP 2011, section 2)

-- the block in a world
abbrev pub within_world : ℕ → Env → WorldId → Act
within_world b env w = Eval (AtStmt b) (record env { world = w }) Ret

-- after the value
abbrev pub within_value : ℕ → Env → Value → Act
within_value b env v = world_of v env (within_world b env)

-- ---- one line per form

abbrev pub stmt_of : ℕ → Node → Env → Act
stmt_of here (Block ss) env = block_from ss env
stmt_of here (Var xs) env = vars_from here 0 xs env
stmt_of here (Expr e) env = Eval (AtExpr e) env (then_value expr_done)
stmt_of here (If e s t) env = Eval (AtExpr e) env (then_value (if_test s t env))
stmt_of here (DoWhile s e) env = Eval (AtStmt s) env (do_body here e env)
stmt_of here (While e s) env = loop_from here (Some e) None s env
stmt_of here (For init t u s) env = for_init here init t u s env
stmt_of here (ForIn t e s) env = Eval (AtExpr e) env (then_value (for_in_value here (TargetNode t) s env))
stmt_of here (ForVarIn name e s) env = Eval (AtExpr e) env (then_value (for_in_value here (VarName name) s env))
stmt_of here (Continue label) env = Ret (Continues label)
stmt_of here (Break label) env = Ret (Breaks label)
stmt_of here (Return None) env = Ret (Returns Undefined)
stmt_of here (Return (Some e)) env = Eval (AtExpr e) env (then_value return_value)
stmt_of here (Throw e) env = Eval (AtExpr e) env (then_value throw_value)
stmt_of here (Label name s) env = Eval (AtStmt s) env (label_done name)
stmt_of here (Switch e clauses) env = Eval (AtExpr e) env (then_value (switch_value clauses env))
stmt_of here (Try b handler f) env = Eval (AtStmt b) env (try_block handler f env)
stmt_of here (Within e b) env = Eval (AtExpr e) env (then_value (within_value b env))
-- `;` (12.3), and a function that is declared already (13)
stmt_of here _ env = Ret Normal

-- a statement by its number
abbrev pub stmt_at : ℕ → Env → Act
stmt_at s env = stmt_of s (node_here env s) env

-- ---- a loop at its next iteration: its test, or without one its body, is entered by this step, and what follows it follows

abbrev pub iteration_from : ℕ → Option ℕ → Option ℕ → ℕ → Env → Act
iteration_from here None u s env = Sub (stmt_at s env) (loop_body here u env)
iteration_from here (Some e) u s env = Sub (expr_at e env) (then_value (loop_test here u s env))

-- one line per loop
abbrev pub again_of : ℕ → Node → Env → Act
again_of here (While e s) env = iteration_from here (Some e) None s env
again_of here (For init t u s) env = iteration_from here t u s env
again_of here (DoWhile s e) env = Sub (stmt_at s env) (do_body here e env)
again_of here _ env = Ret Normal
