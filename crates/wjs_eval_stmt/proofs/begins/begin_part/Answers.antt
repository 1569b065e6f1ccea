use Rattle.wjs_model.specs.declared.point.Point.TheVariants as points
use Rattle.wjs_frames.specs.Parts.{node_of}
use Rattle.wjs_frames.proofs.Handling.{runs_later}
use Rattle.wjs_frames.proofs.Parting.{stands_later, point_later}
use Rattle.wjs_quick.proofs.Entering.{resumed_quickly, entered_slowly}
use Rattle.wjs_eval_stmt.proofs.begins.begin_part.Goals as goal

-- the value was had at once
pub stmt_after-requires-clause-runs : goal.stmt_after-requires-clause-runs
stmt_after-requires-clause-runs g c = runs_later _ _ _ _ c.requires.runs c.value_at_once.ensures.later

pub stmt_after-requires-clause-point : goal.stmt_after-requires-clause-point
stmt_after-requires-clause-point g c =
    point_later g.S.WorldStore.meaning c.args.config.now c.args.frame c.value_at_once.new.config (points.Stmt c.args.point) c.value_at_once.ensures.later c.requires.point

pub returns-in-Some : goal.returns-in-Some
returns-in-Some g c =
    resumed_quickly g.S.WorldStore.meaning c.args.frame c.args.part c.in-Some.value c.args.config.now c.value_at_once.new.config c.stmt_after.new.config
    c.stmt_after.result c.value_at_once.ensures.only c.in-Some.ensures.does (points.Stmt c.args.point) c.stmt_after.ensures

-- it is entered
pub enter-requires-clause-runs : goal.enter-requires-clause-runs
enter-requires-clause-runs g c = runs_later _ _ _ _ c.requires.runs c.value_at_once.ensures.later

pub enter-requires-clause-point : goal.enter-requires-clause-point
enter-requires-clause-point g c =
    point_later g.S.WorldStore.meaning c.args.config.now c.args.frame c.value_at_once.new.config (points.Stmt c.args.point) c.value_at_once.ensures.later c.requires.point

pub enter-requires-clause-part : goal.enter-requires-clause-part
enter-requires-clause-part g c =
    stands_later g.S.WorldStore.meaning c.args.config.now c.args.frame c.value_at_once.new.config (node_of c.args.part) c.value_at_once.ensures.later c.requires.part

pub returns-in-None : goal.returns-in-None
returns-in-None g c =
    entered_slowly g.S.WorldStore.meaning c.args.frame c.args.part c.args.config.now c.value_at_once.new.config c.enter.new.config c.enter.result
    (points.Stmt c.args.point) c.in-None.ensures.same c.enter.ensures
