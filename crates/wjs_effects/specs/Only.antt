-- Statements that have one part, an expression.
use Rattle.std.specs.Prelude.{◌≡◌, Option, None, Some}
use Rattle.wjs_tree.specs.declared.node.Node.{Node}
use Rattle.wjs_tree.specs.declared.node.Node.TheVariants as nodes
use Rattle.wjs_model.specs.declared.frame.Completion.{Completion}
use Rattle.wjs_model.specs.declared.frame.Completion.TheVariants as completions
use Rattle.wjs_model.specs.declared.point.Point.{Point}
use Rattle.wjs_model.specs.declared.point.Point.TheVariants as points
use Rattle.wjs_model.specs.declared.point.CallPoint.TheVariants as call
use Rattle.wjs_model.specs.declared.point.StmtPoint.TheVariants as stmt
use Rattle.wjs_effects.specs.declared.entries.Only.{Only}

-- the expression is the statement's only part, and its frame waits for it at this point
abbrev pub IsOnly : Node → Only → Type 0
IsOnly (nodes.Expr e end) only = only ≡ record { expression = e; behind = stmt.ExprValue }
IsOnly (nodes.Return (Some e) end) only = only ≡ record { expression = e; behind = stmt.ReturnValue }
IsOnly _ only = ⊥

-- where a frame that waits for a statement of its sequence waits for the expression that is the statement
abbrev pub value_point : Point → Option Point
value_point (points.Stmt (stmt.BlockStatement next)) = Some (points.Stmt (stmt.BlockValue next))
value_point (points.Call (call.BodyElement next)) = Some (points.Call (call.BodyValue next))
value_point (points.Call (call.ProgramElement next)) = Some (points.Call (call.ProgramValue next))
value_point _ = None

-- how a statement ends by its expression, whose value is dropped
abbrev pub dropped : Completion → Completion
dropped (completions.Gives v) = completions.Normal
dropped e = e
