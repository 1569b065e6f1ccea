-- The loops (ECMA-262, 3rd edition, section 12.6).
use Rattle.std.specs.Prelude.{ℕ, true, false, List, [], ◌∷◌, Option, None, Some}
use Rattle.wjs_base.specs.declared.ids.ObjId.{ObjId}
use Rattle.wjs_by_content.specs.Values.{Text, Value, Undefined, Null, Object, String}
use Rattle.wjs_by_content.specs.Names.{Slot}
use Rattle.wjs_meaning.specs.declared.trouble.Trouble.TheVariants.{NotAnObject}
use Rattle.wjs_meaning.specs.Builtins.{class_prototype}
use Rattle.wjs_by_content.specs.Conversions.{to_boolean}
use Rattle.wjs_meaning.specs.Trees.{labels, has_text, name_place}
use Rattle.wjs_meaning.specs.Deeds.{Env, Act, Ret, Eval, Do, Read, AtExpr, AtTarget, AtStmt, Again, Reference, Completion, Normal, Breaks, Continues, then_value, then_reference, tree_here}
use Rattle.wjs_meaning.specs.Properties.{visits}
use Rattle.wjs_meaning.specs.Errors.{throw}
use Rattle.wjs_meaning.specs.References.{reference_at, store}

-- after a loop's body: the next iteration, or the loop's end; a `continue` with a label is meant where the label is the loop's
abbrev pub after_body : ℕ → Env → Act → Completion → Act
after_body here env again Normal = again
after_body here env again (Continues None) = again
after_body here env again (Continues (Some label)) = elim (has_text (labels (tree_here env) here) label) [ true ↦ again | false ↦ Ret (Continues (Some label)) ]
after_body here env again (Breaks None) = Ret Normal
after_body here env again c = Ret c

-- the next iteration
abbrev pub loop_again : ℕ → Env → Act
loop_again here env = Eval (Again here) env Ret

-- ---- `while` and `for` (12.6.2, 12.6.3)

-- after the update of a `for`
abbrev pub loop_updated : ℕ → Env → Value → Act
loop_updated here env v = loop_again here env

-- the update, if there is one
abbrev pub loop_update : ℕ → Option ℕ → Env → Act
loop_update here None env = loop_again here env
loop_update here (Some u) env = Eval (AtExpr u) env (then_value (loop_updated here env))

-- after the body
abbrev pub loop_body : ℕ → Option ℕ → Env → Completion → Act
loop_body here u env c = after_body here env (loop_update here u env) c

-- after the test
abbrev pub loop_test : ℕ → Option ℕ → ℕ → Env → Value → Act
loop_test here u s env v = elim (to_boolean v) [ true ↦ Eval (AtStmt s) env (loop_body here u env) | false ↦ Ret Normal ]

-- the test, if there is one, or the body at once
abbrev pub loop_from : ℕ → Option ℕ → Option ℕ → ℕ → Env → Act
loop_from here None u s env = Eval (AtStmt s) env (loop_body here u env)
loop_from here (Some e) u s env = Eval (AtExpr e) env (then_value (loop_test here u s env))

-- after the first expression of a `for`
abbrev pub for_started : ℕ → Option ℕ → Option ℕ → ℕ → Env → Value → Act
for_started here t u s env v = loop_from here t u s env

-- ---- `do` (12.6.1)

-- after the test
abbrev pub do_test : ℕ → Env → Value → Act
do_test here env v = elim (to_boolean v) [ true ↦ loop_again here env | false ↦ Ret Normal ]

-- after the body
abbrev pub do_body : ℕ → ℕ → Env → Completion → Act
do_body here e env c = after_body here env (Eval (AtExpr e) env (then_value (do_test here env))) c

-- ---- `for`-`in` (12.6.4)

-- what takes the names: a target, or the name of the `var`
pub data Taker : Type 0 where
  TargetNode : ℕ → Taker
  VarName : Text → Taker

-- the name is stored and the body run; then come the other visits
abbrev pub visit_body : ℕ → ℕ → Text → Env → Act → Reference → Act
visit_body here s name env again r = store r (String name) env (Eval (AtStmt s) env (after_body here env again))

-- the reference that takes the name
abbrev pub visit_take : ℕ → Taker → ℕ → Text → Env → Act → Act
visit_take here (TargetNode t) s name env again = Eval (AtTarget t) env (then_reference (visit_body here s name env again))
visit_take here (VarName x) s name env again = reference_at (name_place (tree_here env) here 0) x env (visit_body here s name env again)

-- each visit's slot is read, and where it is absent the visit is left out
abbrev pub visits_from : ℕ → Taker → ℕ → List Slot → Env → Act
visits_from here t s [] env = Ret Normal
visits_from here t s (x ∷ xs) env = Do (Read env.world x) (λ found. elim found [
  | None ↦ visits_from here t s xs env
  | Some v ↦ visit_take here t s x.name env (visits_from here t s xs env)
])

-- the visits of an object
abbrev pub for_in_object : ℕ → Taker → ℕ → Env → ObjId → Act
for_in_object here t s env o = visits o env (λ xs. visits_from here t s xs env)

-- after the value: a primitive lists the prototype object of its class
abbrev pub for_in_value : ℕ → Taker → ℕ → Env → Value → Act
for_in_value here t s env Undefined = throw NotAnObject env
for_in_value here t s env Null = throw NotAnObject env
for_in_value here t s env (Object o) = for_in_object here t s env o
for_in_value here t s env v = for_in_object here t s env (class_prototype v)
