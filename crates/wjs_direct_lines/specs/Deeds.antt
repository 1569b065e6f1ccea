-- The deeds that are evaluated at once: of goals, of what follows the step of their entry, and of lines.
use Rattle.std.specs.Prelude.{◌≡◌, ℕ, List, [], ◌∷◌, ◌++◌, Option, Some, Result, Ok, Err, map as each}
use Rattle.wjs_base.specs.Text.{Table}
use Rattle.wjs_base.specs.declared.ids.NodeId.{NodeId}
use Rattle.wjs_base.specs.declared.ids.ObjId.{ObjId}
use Rattle.wjs_base.specs.declared.ids.TextId.{TextId}
use Rattle.wjs_base.specs.declared.values.Value.{Value}
use Rattle.std.specs.FinMap as map
use Rattle.wjs_arena.specs.Entries.{Entry}
use Rattle.wjs_arena.specs.declared.object.Code.TheVariants as code
use Rattle.wjs_store.specs.Meaning.{Meaning}
use Rattle.wjs_tree.specs.declared.node.Node.TheVariants as nodes
use Rattle.wjs_model.specs.declared.frame.Completion.{Completion as Said}
use Rattle.wjs_model.specs.declared.frame.Completion.TheVariants as completions
use Rattle.wjs_model.specs.declared.frame.Held.{Held}
use Rattle.wjs_model.specs.declared.frame.Held.TheVariants as holds
use Rattle.wjs_model.specs.declared.frame.Phase.{Phase}
use Rattle.wjs_model.specs.declared.frame.Reference.{Reference}
use Rattle.wjs_model.specs.Contents.{completion_in, reference_in}
use Rattle.wjs_model.specs.Frames.{latest_first}
use Rattle.wjs_tree.specs.declared.node.Node.{Node}
use Rattle.wjs_tree.specs.declared.node.Spelt.{Spelt}
use Rattle.wjs_tree.specs.declared.operators.PrefixOperator.{PrefixOperator}
use Rattle.wjs_tree.specs.declared.operators.PrefixOperator.TheVariants as prefix
use Rattle.wjs_model.specs.declared.point.ExprPoint.{ExprPoint}
use Rattle.wjs_model.specs.declared.point.ExprPoint.TheVariants as expr
use Rattle.wjs_meaning.specs.Deeds.{Env, Goal, Completion, Act, Eval, Sub, Refers}
use Rattle.wjs_meaning.specs.Programs.{entry}
use Rattle.wjs_model.specs.declared.config.Config.{Config}
use Rattle.wjs_model.specs.declared.frame.Activation.{Activation as Frame}
use Rattle.wjs_frames.specs.Parts.{env_in, node_now}
use Rattle.wjs_stopping.specs.declared.ends.Broken.{Broken}
use Rattle.wjs_stopping.specs.declared.ends.Broken.TheVariants as ends
use Rattle.wjs_stopping.specs.Waiting.{at_node}
use Rattle.wjs_stopping.specs.Evaluating.{Evaluates, Leaves, part_then}

module _ {S : Type 0} (meaning : S → Meaning) where
  -- a goal, where a frame is run
  abbrev pub goal_here : Config S → Frame → Goal → Table → (Completion → Act) → Act
  goal_here c f goal t go = Eval goal (env_in meaning c t f) go

  -- what follows the step of its entry
  abbrev pub entry_here : Config S → Frame → Goal → Table → (Completion → Act) → Act
  entry_here c f goal t go = Sub (entry goal (env_in meaning c t f)) go

  -- a line
  abbrev pub line_here : Config S → Frame → (Table → Env → Act) → Table → (Completion → Act) → Act
  line_here c f act t go = Sub (act t (env_in meaning c t f)) go

  -- a form that begins with a part, before the line that comes next
  abbrev pub form_here : Config S → Frame → Goal → (Table → Env → Completion → Act) → Table → (Completion → Act) → Act
  form_here c f goal next = part_then meaning goal (λ t. env_in meaning c t f) (λ t. next t (env_in meaning c t f))

  -- the deeds came to this, before what is left by it; or they broke off
  abbrev pub ComesTo : {A : Type 0} → (Table → (Completion → Act) → Act) → (A → Table → (Completion → Act) → Act) → Result A Broken → List Frame → Option (Frame × Phase) → Config S → Config S → Type 0
  ComesTo deeds left (Ok v) waits top old new = Leaves meaning deeds (left v) old new
  ComesTo deeds left (Err end) waits top old new = Evaluates meaning {A = Said} deeds completion_in (Err end) waits top old new

  -- the node of a number is this one
  abbrev pub IsNode : Config S → Frame → NodeId → Node → Type 0
  IsNode c f node n = node_now meaning c (at_node f node []) ≡ n

  -- it is a call of this callee
  abbrev pub IsCallee : Config S → Frame → NodeId → NodeId → Type 0
  IsCallee c f node callee = (arguments : List NodeId) × IsNode c f node (nodes.Call callee arguments)

  -- it is a member by this name
  abbrev pub IsDot : Config S → Frame → NodeId → Spelt → Type 0
  IsDot c f node name = (base : NodeId) × IsNode c f node (nodes.Dot base name)

  -- it is a function expression of this name
  abbrev pub IsFunctionExpression : Config S → Frame → NodeId → Option TextId → Type 0
  IsFunctionExpression c f node name = (formals : List TextId) × ((elements : List NodeId) × IsNode c f node (nodes.Function name formals elements))

-- where the frame of an operator waits whose operand is entered for its value
abbrev pub prefix_point : PrefixOperator → ExprPoint
prefix_point prefix.Plus = expr.PlusValue
prefix_point prefix.Minus = expr.MinusValue
prefix_point prefix.BitNot = expr.ComplementValue
prefix_point prefix.Not = expr.NotValue
prefix_point _ = expr.VoidValue

-- an object's code is the body at a node of a tree
abbrev pub IsScript : {S : Type 0} → Config S → ObjId → ℕ → NodeId → Type 0
IsScript c o tree node = (e : Entry) → map.get c.heap.arena o ≡ Some e → e.object.code ≡ code.Script tree node

-- what the frame of a call holds, the latest first: its callee, and the values of arguments
abbrev pub call_held : Value → Value → List Value → List Held
call_held callee this values = latest_first (each (λ v. holds.Value v) values) ++ holds.Callee callee this ∷ []

-- the completion of a reference
abbrev pub refers_in : Table → Reference → Completion
refers_in t r = Refers (reference_in t r)

-- how a `return` ends by the completion of its expression
abbrev pub returned_by : Said → Said
returned_by (completions.Gives v) = completions.Returns v
returned_by e = e

-- what broke off is what was thrown
abbrev pub IsThrown : Said → Broken → Type 0
IsThrown e broken = (x : Value) × ((broken ≡ ends.Throws x) × (e ≡ completions.Throws x))
