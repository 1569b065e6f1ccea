-- Statements that have one part, an expression: their lines, and that the part stands where the statement does.
use Rattle.std.proofs.Common.{◌≡◌, ℕ, Some, None, inl, refl, sym, ap, subst}
use Rattle.wjs_base.specs.declared.ids.NodeId.{NodeId}
use Rattle.wjs_base.specs.Text.{Table}
use Rattle.wjs_store.specs.Meaning.{Meaning}
use Rattle.wjs_tree.specs.declared.node.Node.{Node}
use Rattle.wjs_tree.specs.declared.node.Node.TheVariants as nodes
use Rattle.wjs_scope.specs.Nesting.{Around, parts, IsAmong}
use Rattle.wjs_meaning.specs.Deeds.{Env, Completion as Said, Act, Ret, Eval, AtExpr, then_value}
use Rattle.wjs_meaning.specs.Reading.{node_in}
use Rattle.wjs_meaning.specs.Statements.{stmt_of, expr_done}
use Rattle.wjs_meaning.specs.Trees.{Node as Spoken}
use Rattle.wjs_model.specs.declared.config.Config.{Config}
use Rattle.wjs_model.specs.declared.frame.Activation.{Activation as Frame}
use Rattle.wjs_model.specs.declared.frame.Completion.{Completion}
use Rattle.wjs_model.specs.declared.frame.Completion.TheVariants as completions
use Rattle.wjs_model.specs.declared.point.CallPoint.TheVariants as call
use Rattle.wjs_model.specs.declared.point.StmtPoint.TheVariants as stmt
use Rattle.wjs_model.specs.declared.point.Point.{Point}
use Rattle.wjs_model.specs.declared.point.Point.TheVariants as points
use Rattle.wjs_model.specs.Contents.{Holding, completion_in}
use Rattle.wjs_model.specs.Soundness.{HasCompletion, IsThere, StandsHere, HasPoint}
use Rattle.wjs_model.specs.Waiting.{after, after_stmt, after_dropped}
use Rattle.wjs_frames.specs.Parts.{node_among}
use Rattle.wjs_frames.specs.Shortening.{Shortens}
use Rattle.wjs_frames.proofs.Parting.{stands_here}
use Rattle.wjs_frames.proofs.Shorter.{shorten_ended}
use Rattle.wjs_effects.specs.declared.entries.Only.{Only}
use Rattle.wjs_effects.specs.Only.{IsOnly, value_point, dropped}
use Rattle.wjs_effects.proofs.Leaving.{shorten_as}

pub only_line : (t : Table) (here : ℕ) (n : Node) (only : Only) (held : Holding) (env : Env) → IsOnly n only
    → stmt_of here (node_in t n) env ≡ Eval (AtExpr only.expression.0) env (after_stmt only.behind here (node_in t n) held env)
only_line t here (nodes.Expr e end) only held env is =
    subst (λ (o : Only). stmt_of here (node_in t (nodes.Expr e end)) env ≡ Eval (AtExpr o.expression.0) env (after_stmt o.behind here (node_in t (nodes.Expr e end)) held env)) (sym is) refl
only_line t here (nodes.Return (Some e) end) only held env is =
    subst (λ (o : Only). stmt_of here (node_in t (nodes.Return (Some e) end)) env ≡ Eval (AtExpr o.expression.0) env (after_stmt o.behind here (node_in t (nodes.Return (Some e) end)) held env)) (sym is) refl
only_line t here (nodes.Return None end) only held env is = absurd is
only_line t here _ only held env is = absurd is

only_among : (n : Node) (only : Only) → IsOnly n only → IsAmong (parts n) (only.expression, Around)
only_among (nodes.Expr e end) only is = subst (λ (o : Only). IsAmong (parts (nodes.Expr e end)) (o.expression, Around)) (sym is) (inl refl)
only_among (nodes.Return (Some e) end) only is = subst (λ (o : Only). IsAmong (parts (nodes.Return (Some e) end)) (o.expression, Around)) (sym is) (inl refl)
only_among (nodes.Return None end) only is = absurd is
only_among _ only is = absurd is

-- the point names no node
pub only_point : {S : Type 0} (c : Config S) (f : Frame) (n : Node) (only : Only) → IsOnly n only → HasPoint c f (points.Stmt only.behind)
only_point c f (nodes.Expr e end) only is = subst (λ (o : Only). HasPoint c f (points.Stmt o.behind)) (sym is) tt
only_point c f (nodes.Return (Some e) end) only is = subst (λ (o : Only). HasPoint c f (points.Stmt o.behind)) (sym is) tt
only_point c f (nodes.Return None end) only is = absurd is
only_point c f _ only is = absurd is

pub only_stands : {S : Type 0} (meaning : S → Meaning) (c : Config S) (f : Frame) (s : NodeId) (only : Only) → IsThere meaning c f → StandsHere c f s
    → IsOnly (node_among c.units.items f.tree s) only → StandsHere c f only.expression
only_stands meaning c f s only here h is =
    stands_here meaning c (record f { node = s }) (node_among c.units.items f.tree s) only.expression
    (record { scope = here.scope; this = here.this; world = here.world; held = here.held; stands = record { node = h; shown = here.stands.shown } }) refl
    (only_among (node_among c.units.items f.tree s) only is)

-- ---- without the statement's frame

-- the frame of a sequence does what the statement's would do, and then what it does behind the statement
pub value_line : (point waits : Point) → value_point point ≡ Some waits → (here : ℕ) (node : Spoken) (held : Holding) (env : Env) → after waits here node held env ≡ after_dropped (after point here node held env)
value_line (points.Stmt (stmt.BlockStatement next)) waits e here node held env =
    let same : waits ≡ points.Stmt (stmt.BlockValue next) = cc in
    ap (λ (p : Point). after p here node held env) same
value_line (points.Call (call.BodyElement next)) waits e here node held env =
    let same : waits ≡ points.Call (call.BodyValue next) = cc in
    ap (λ (p : Point). after p here node held env) same
value_line (points.Call (call.ProgramElement next)) waits e here node held env =
    let same : waits ≡ points.Call (call.ProgramValue next) = cc in
    ap (λ (p : Point). after p here node held env) same
value_line _ waits e here node held env = absurd (cc)

-- and names nothing more
pub value_there : {S : Type 0} (c : Config S) (f : Frame) (point waits : Point) → value_point point ≡ Some waits → HasPoint c f point → HasPoint c f waits
value_there c f (points.Stmt (stmt.BlockStatement next)) waits e h =
    let same : points.Stmt (stmt.BlockValue next) ≡ waits = cc in
    subst (HasPoint c f) same tt
value_there c f (points.Call (call.BodyElement next)) waits e h =
    let same : points.Call (call.BodyValue next) ≡ waits = cc in
    subst (HasPoint c f) same h
value_there c f (points.Call (call.ProgramElement next)) waits e h =
    let same : points.Call (call.ProgramValue next) ≡ waits = cc in
    subst (HasPoint c f) same tt
value_there c f _ waits e h = absurd (cc)

-- how a statement ends by its expression
pub dropped_is : (t : Table) (e : Completion) → then_value expr_done (completion_in t e) ≡ Ret (completion_in t (dropped e))
dropped_is t (completions.Gives v) = refl
dropped_is t (completions.Refers r) = refl
dropped_is t completions.Normal = refl
dropped_is t (completions.Breaks label) = refl
dropped_is t (completions.Continues label) = refl
dropped_is t (completions.Returns v) = refl
dropped_is t (completions.Throws v) = refl

pub dropped_there : {S : Type 0} (c : Config S) (e : Completion) → HasCompletion c e → HasCompletion c (dropped e)
dropped_there c (completions.Gives v) h = tt
dropped_there c (completions.Refers r) h = h
dropped_there c completions.Normal h = h
dropped_there c (completions.Breaks label) h = h
dropped_there c (completions.Continues label) h = h
dropped_there c (completions.Returns v) h = h
dropped_there c (completions.Throws v) h = h

-- and what follows the statement goes on
pub dropped_shortens : (t : Table) (e : Completion) (go : Said → Act) → Shortens (after_dropped go (completion_in t e)) (go (completion_in t (dropped e)))
dropped_shortens t e go = shorten_ended (then_value expr_done (completion_in t e)) (completion_in t (dropped e)) go (shorten_as _ _ (dropped_is t e))
