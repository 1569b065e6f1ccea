use Rattle.std.proofs.Common.{sym, subst, drop}
use Rattle.std.specs.Prelude.{OnOk}
use Rattle.wjs_meaning.specs.Deeds.{Eval, Sub, AtStmt, then_normal}
use Rattle.wjs_meaning.specs.Statements.{block_from}
use Rattle.wjs_meaning.specs.Trees.{Node}
use Rattle.wjs_model.specs.declared.point.Point.TheVariants as points
use Rattle.wjs_model.specs.declared.point.StmtPoint.TheVariants as stmt
use Rattle.wjs_model.specs.Lists.{block_items}
use Rattle.wjs_frames.specs.Following.{Follows}
use Rattle.wjs_frames.specs.Parts.{env_in, then_at}
use Rattle.wjs_frames.proofs.Handling.{runs_over}
use Rattle.wjs_frames.proofs.Parting.{stands_later}
use Rattle.wjs_effects.proofs.Nested.{above_there, above_stands, above_follows}
use Rattle.wjs_loops.proofs.BlockLines.{block_here}
use Rattle.wjs_loops.proofs.above.enter_in_block.Goals as goal

pub returns : goal.returns
returns g c =
    let m = g.S.WorldStore.meaning in
    let old = c.args.config.now in
    let mid = c.wait_below.new.config in
    let new = c.enter_statement.new.config in
    let t = new.heap.texts in
    let f = c.args.frame in
    let block = c.args.block in
    let point = c.args.point in
    let env = env_in m old t f in
    let P : Node → Type 0 = λ n. OnOk c.enter_statement.result (Follows m (Sub (Eval (AtStmt c.args.statement.0) env (then_normal (block_from (drop c.args.next (block_items n)) env))) (then_at m old f point t env)) old new) in
    subst P (sym (block_here m old f block t))
    (above_follows m f c.in_ok-inner.inner block c.in_ok-inner.ensures.inner point (points.Stmt (stmt.BlockStatement c.args.next)) (AtStmt c.args.statement.0) old mid new c.enter_statement.result c.in_ok-inner.ensures.same c.in_ok-inner.ensures.nests c.enter_statement.ensures)

pub enter_statement-requires-clause-runs : goal.enter_statement-requires-clause-runs
enter_statement-requires-clause-runs g c =
    let m = g.S.WorldStore.meaning in
    let old = c.args.config.now in
    let inner = c.in_ok-inner.inner in
    let l = c.in_ok-inner.ensures.later in
    runs_over m old c.wait_below.new.config c.args.frame inner c.requires.runs l
    (l.frames inner (above_there m c.args.frame inner c.args.block c.in_ok-inner.ensures.inner old c.requires.runs.there c.requires.block))

pub enter_statement-requires-clause-part : goal.enter_statement-requires-clause-part
enter_statement-requires-clause-part g c =
    let m = g.S.WorldStore.meaning in
    let old = c.args.config.now in
    let inner = c.in_ok-inner.inner in
    stands_later m old inner c.wait_below.new.config c.args.statement c.in_ok-inner.ensures.later
    (above_stands m c.args.frame inner c.args.block c.in_ok-inner.ensures.inner old c.args.statement c.requires.statement)
