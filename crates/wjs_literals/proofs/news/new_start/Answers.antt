use Rattle.wjs_model.specs.declared.point.ExprPoint.TheVariants as exprs
use Rattle.wjs_model.specs.declared.point.Point.TheVariants as points
use Rattle.wjs_frames.specs.declared.part.Part.TheVariants as parts
use Rattle.wjs_frames.proofs.Handling.{runs_later}
use Rattle.wjs_frames.proofs.Parting.{stands_later}
use Rattle.wjs_quick.proofs.Entering.{resumed_quickly, entered_slowly}
use Rattle.wjs_literals.proofs.news.new_start.Goals as goal

-- the value was had at once
pub new_callee-requires-clause-runs : goal.new_callee-requires-clause-runs
new_callee-requires-clause-runs g c = runs_later _ _ _ _ c.requires.runs c.quick.ensures.later

pub returns-in-Some : goal.returns-in-Some
returns-in-Some g c =
    resumed_quickly g.S.WorldStore.meaning c.args.frame (parts.Expr c.args.callee) c.in-Some.value c.args.config.now c.quick.new.config c.new_callee.new.config
    c.new_callee.result c.quick.ensures.only c.in-Some.ensures.does (points.Expr exprs.NewCallee) c.new_callee.ensures

-- it is entered
pub enter-requires-clause-runs : goal.enter-requires-clause-runs
enter-requires-clause-runs g c = runs_later _ _ _ _ c.requires.runs c.quick.ensures.later

pub enter-requires-clause-part : goal.enter-requires-clause-part
enter-requires-clause-part g c =
    stands_later g.S.WorldStore.meaning c.args.config.now c.args.frame c.quick.new.config c.args.callee c.quick.ensures.later c.requires.callee

pub returns-in-None : goal.returns-in-None
returns-in-None g c =
    entered_slowly g.S.WorldStore.meaning c.args.frame (parts.Expr c.args.callee) c.args.config.now c.quick.new.config c.enter.new.config c.enter.result
    (points.Expr exprs.NewCallee) c.in-None.ensures.same c.enter.ensures
