use Rattle.std.proofs.Common.{refl, sym, ap, ◌∙◌, subst}
use Rattle.std.specs.Prelude.{OnOk}
use Rattle.wjs_meaning.specs.Deeds.{Completion, Act, Eval, Sub, AtExpr, AtStmt, then_value}
use Rattle.wjs_meaning.specs.Programs.{entry}
use Rattle.wjs_meaning.specs.Reading.{node_in}
use Rattle.wjs_meaning.specs.Statements.{expr_done}
use Rattle.wjs_model.specs.declared.point.StmtPoint.{StmtPoint}
use Rattle.wjs_model.specs.Contents.{holding_in}
use Rattle.wjs_model.specs.Waiting.{after_stmt, after_dropped}
use Rattle.wjs_frames.specs.Following.{Follows}
use Rattle.wjs_frames.specs.Parts.{env_in, node_among, node_now, then_at}
use Rattle.wjs_frames.specs.Shortening.{Shortens}
use Rattle.wjs_frames.proofs.Shorter.{follows_shorter}
use Rattle.wjs_quick.proofs.Coming.{shorten_goal}
use Rattle.wjs_effects.proofs.Lines.{stmt_is}
use Rattle.wjs_effects.proofs.Only.{only_line, only_stands, value_line, value_there}
use Rattle.wjs_effects.proofs.entries.enter_value.Goals as goal

pub enter-requires-clause-point : goal.enter-requires-clause-point
enter-requires-clause-point g c = value_there c.args.config.now c.args.frame c.args.point c.in-Some.waits c.in-Some.ensures c.requires.point

pub enter-requires-clause-part : goal.enter-requires-clause-part
enter-requires-clause-part g c = only_stands g.S.WorldStore.meaning c.args.config.now c.args.frame c.args.s c.args.only c.requires.runs.there c.requires.part c.requires.only

pub returns-in-Some : goal.returns-in-Some
returns-in-Some g c =
    let m = g.S.WorldStore.meaning in
    let old = c.args.config.now in
    let new = c.enter.new.config in
    let r = c.enter.result in
    let t = new.heap.texts in
    let f = c.args.frame in
    let s = c.args.s in
    let o = c.args.only in
    let n = node_among old.units.items f.tree s in
    let env = env_in m old t f in
    let held = holding_in t f.held in
    let go = then_at m old f c.args.point t env in
    let e = AtExpr o.expression.0 in
    let line = stmt_is m old f s n t refl ∙ only_line t s.0 n o held env c.requires.only
    ∙ ap (λ (b : StmtPoint). Eval e env (after_stmt b s.0 (node_in t n) held env)) c.requires.value in
    let P : (Completion → Act) → Type 0 = λ k. OnOk r (Follows m (Eval e env k) old new) in
    let Q : Act → Type 0 = λ a. Shortens (Sub a go) (Eval e env (after_dropped go)) in
    follows_shorter m (Sub (entry (AtStmt s.0) env) go) (Eval e env (after_dropped go)) old new r
    (subst Q (sym line) (shorten_goal e env (then_value expr_done) go))
    (subst P (value_line c.args.point c.in-Some.waits c.in-Some.ensures f.node.0 (node_in t (node_now m old f)) held env) c.enter.ensures)
