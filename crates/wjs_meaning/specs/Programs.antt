-- What goals do, and the run of programs.
use Rattle.std.specs.Prelude.{ℕ, zero, suc, ◌+◌, List, [], ◌∷◌, ◌++◌, Option, None, Some}
use Rattle.wjs_base.specs.declared.ids.ObjId.{ObjId}
use Rattle.wjs_base.specs.declared.ids.WorldId.{WorldId}
use Rattle.wjs_by_content.specs.Values.{Text, Value, Object, String}
use Rattle.wjs_meaning.specs.Trees.{Tree, tree_at}
use Rattle.wjs_meaning.specs.Declarations.{declared_by}
use Rattle.wjs_meaning.specs.Deeds.{St, Env, Goal, AtExpr, AtTarget, AtStmt, Again, AtBody, AtProgram, AtNative, Act, Tick, Gives, Throws, Outcome, Ends, Spent, Next, interp, node_here, give}
use Rattle.wjs_store.specs.State.{first_world}
use Rattle.wjs_meaning.specs.Builtins.{global_object}
use Rattle.wjs_meaning.specs.Functions.{body_of, program_of, function_names}
use Rattle.wjs_meaning.specs.Expressions.{expr_at, target_of}
use Rattle.wjs_meaning.specs.Statements.{stmt_at, again_of}
use Rattle.wjs_meaning.specs.NativesOfObjects.{thrown_text}
use Rattle.wjs_meaning.specs.Natives.{native_of}
use Rattle.wjs_meaning.specs.Start.{start}

-- ---- goals

-- what follows the step of a goal's entry
abbrev pub entry : Goal → Env → Act
entry (AtExpr e) env = expr_at e env
entry (AtTarget e) env = target_of e (node_here env e) env
entry (AtStmt s) env = stmt_at s env
entry (Again s) env = again_of s (node_here env s) env
entry (AtBody f args) env = body_of f args env
entry AtProgram env = program_of env
entry (AtNative k new args) env = native_of k new args env

-- what a goal does, to a depth: one step, and then its entry
abbrev pub eval_to : ℕ → Next
eval_to zero goal env st n = Spent st
eval_to (suc depth) goal env st n = interp (eval_to depth) (Tick (entry goal env)) st n

-- what a goal does: each entry takes a step, so a run with n steps left goes no deeper than n
abbrev pub eval : Next
eval goal env st n = eval_to n goal env st n

-- ---- programs (ECMA-262, 3rd edition, section 14)

-- how a run ends
pub data Ending : Type 0 where
  Done : Ending
  Threw : Value → Ending
  StepsSpent : Ending

-- where the body of program k is run: in a world and on a global object, by an owner (10.2.1)
abbrev pub env_of_program : List Tree → ℕ → WorldId → ObjId → ℕ → Env
env_of_program trees k world global owner = record { trees = trees; tree = k; scope = global; this = Object global; world = world; global = global; owner = owner }

-- in a run from the start: in the first world and on its global object, by owner 0
abbrev pub program_env : List Tree → ℕ → Env
program_env trees k = env_of_program trees k first_world global_object 0

-- goes on after a program that did not throw
abbrev pub run_next : Outcome → (St → ℕ → Ending × St) → Ending × St
run_next (Ends (Throws v) st n) go = (Threw v, st)
run_next (Ends c st n) go = go st n
run_next (Spent st) go = (StepsSpent, st)

-- the bodies of so many programs in turn, from number k on; a throw or want of steps ends the run
abbrev pub run_from : ℕ → ℕ → List Tree → St → ℕ → Ending × St
run_from zero k trees st n = (Done, st)
run_from (suc more) k trees st n = run_next (eval AtProgram (program_env trees k) st n) (λ st' n'. run_from more (k + 1) trees st' n')

-- the names that a program declares
abbrev pub declared_names : List Tree → ℕ → List Text
declared_names trees k =
    let d = declared_by (tree_at trees k) (tree_at trees k).body in
    function_names (program_env trees k) d.functions ++ d.vars

-- the run of the library's tree, where there is one, and of the script's, with so many steps
abbrev pub machine : Option Tree → Tree → ℕ → Ending × St
machine None script budget = run_from 1 0 (script ∷ []) (start (declared_names (script ∷ []) 0)) budget
machine (Some library) script budget = run_from 2 0 (library ∷ script ∷ []) (start (declared_names (library ∷ script ∷ []) 1)) budget

-- ---- the text of a thrown value

-- the text that a run ends with
abbrev pub given_text : Outcome → Text
given_text (Ends (Gives (String t)) st n) = t
given_text outcome = []

-- it enters no goal
abbrev pub no_goals : Next
no_goals goal env st n = Spent st

-- by [[Get]] in a world; no script code runs for it
abbrev pub shown_in : WorldId → ObjId → ℕ → Value → St → Text
shown_in world global owner v st = given_text (interp no_goals (thrown_text v (env_of_program [] 0 world global owner) (λ t. give (String t))) st 0)

-- in a run from the start: by [[Get]] in the first world
abbrev pub shown_text : Value → St → Text
shown_text v st = shown_in first_world global_object 0 v st
