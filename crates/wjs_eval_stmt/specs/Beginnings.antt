-- What statements begin with.
use Rattle.std.specs.Prelude.{ℕ, None, Some}
use Rattle.wjs_base.specs.declared.values.Value.TheVariants as values
use Rattle.wjs_base.specs.Text.{Table}
use Rattle.wjs_tree.specs.declared.node.ForInit.TheVariants as inits
use Rattle.wjs_tree.specs.declared.node.Node.{Node as NumberedNode}
use Rattle.wjs_tree.specs.declared.node.Node.TheVariants as nodes
use Rattle.wjs_meaning.specs.Reading.{number}
use Rattle.wjs_meaning.specs.Trees.{Node}
use Rattle.wjs_meaning.specs.Deeds.{Env, Act, Ret, Eval, Sub, then_normal}
use Rattle.wjs_meaning.specs.Loops.{loop_from}
use Rattle.wjs_meaning.specs.Statements.{block_from, vars_from}
use Rattle.wjs_model.specs.declared.config.Config.{Config}
use Rattle.wjs_model.specs.declared.frame.Activation.{Activation as Frame}
use Rattle.wjs_model.specs.declared.frame.Completion.TheVariants as completions
use Rattle.wjs_model.specs.declared.point.Point.TheVariants as points
use Rattle.wjs_model.specs.declared.point.StmtPoint.TheVariants as stmts
use Rattle.wjs_model.specs.Contents.{Holding, completion_in}
use Rattle.wjs_model.specs.Lists.{block_items, variables_of, if_for}
use Rattle.wjs_model.specs.Soundness.{HasCompletion, HasPoint, StandsHere, StandsIf}
use Rattle.wjs_model.specs.Waiting.{after_stmt}
use Rattle.wjs_frames.specs.declared.part.Part.TheVariants as part
use Rattle.wjs_frames.specs.Parts.{goal_of, node_of}
use Rattle.wjs_eval_stmt.specs.declared.beginnings.Beginning.{Beginning}
use Rattle.wjs_eval_stmt.specs.declared.beginnings.Beginning.TheVariants.{Enters, Ends, Block, Variables, Loop, Declares}

-- by the statement's node
abbrev pub beginning_of : NumberedNode → Beginning
beginning_of (nodes.Block ss) = Block
beginning_of (nodes.Var xs end) = Variables
beginning_of (nodes.Expr e end) = Enters stmts.ExprValue (part.Expr e)
beginning_of (nodes.If e s other) = Enters (stmts.IfTest s other) (part.Expr e)
beginning_of (nodes.DoWhile s e end) = Enters (stmts.DoBody e) (part.Stmt s)
beginning_of (nodes.While e s) = Enters (stmts.WhileTest s) (part.Expr e)
beginning_of (nodes.For inits.Nothing t u s) = Loop t u s
beginning_of (nodes.For (inits.Expr e) t u s) = Enters stmts.ForFirst (part.Expr e)
beginning_of (nodes.For (inits.Var xs) t u s) = Declares
beginning_of (nodes.ForIn target e s) = Enters (stmts.VisitsObject s) (part.Expr e)
beginning_of (nodes.ForVarIn name e s) = Enters (stmts.VisitsObject s) (part.Expr e)
beginning_of (nodes.Continue label end) = Ends (completions.Continues label)
beginning_of (nodes.Break label end) = Ends (completions.Breaks label)
beginning_of (nodes.Return (Some e) end) = Enters stmts.ReturnValue (part.Expr e)
beginning_of (nodes.Return None end) = Ends (completions.Returns values.Undefined)
beginning_of (nodes.Throw e end) = Enters stmts.ThrowValue (part.Expr e)
beginning_of (nodes.Label name s) = Enters stmts.LabelBody (part.Stmt s)
beginning_of (nodes.Switch e clauses) = Enters stmts.SwitchValue (part.Expr e)
beginning_of (nodes.Try s handler last) = Enters (stmts.TryBlock last) (part.Stmt s)
beginning_of (nodes.Within e s) = Enters (stmts.WithinWorld s) (part.Expr e)
beginning_of _ = Ends completions.Normal

-- what it does then
abbrev pub goes : Table → ℕ → Node → Holding → Env → Beginning → Act
goes t here node held env (Enters point p) = Eval (goal_of p) env (after_stmt point here node held env)
goes t here node held env (Ends c) = Ret (completion_in t c)
goes t here node held env Block = block_from (block_items node) env
goes t here node held env Variables = vars_from here 0 (variables_of node) env
goes t here node held env (Loop test update s) = loop_from here (number test) (number update) s.0 env
goes t here node held env Declares = Sub (vars_from here 0 (variables_of node) env) (then_normal (if_for node (λ test update s. loop_from here test update s env)))

-- where the frame is run all stands that it begins with
abbrev pub CanBegin : {S : Type 0} → Config S → Frame → Beginning → Type 0
CanBegin c f (Enters point p) = HasPoint c f (points.Stmt point) × StandsHere c f (node_of p)
CanBegin c f (Ends e) = HasCompletion c e
CanBegin c f Block = Unit {0}
CanBegin c f Variables = Unit {0}
CanBegin c f (Loop test update s) = StandsIf c f test × (StandsIf c f update × StandsHere c f s)
CanBegin c f Declares = Unit {0}
