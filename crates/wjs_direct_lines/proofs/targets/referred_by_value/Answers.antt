use Rattle.std.proofs.Common.{[], ◌∷◌}
use Rattle.std.specs.Prelude.{Err}
use Rattle.wjs_by_content.specs.Tables.{value_in}
use Rattle.wjs_model.specs.Waiting.{refer}
use Rattle.wjs_meaning.specs.Expressions.{at_index}
use Rattle.wjs_model.specs.declared.frame.Completion.TheVariants as completions
use Rattle.wjs_model.specs.declared.frame.Held.TheVariants as holds
use Rattle.wjs_model.specs.declared.frame.Phase.TheVariants as phases
use Rattle.wjs_model.specs.declared.frame.Reference.{Reference}
use Rattle.wjs_model.specs.declared.point.ExprPoint.TheVariants as expr
use Rattle.wjs_model.specs.declared.point.Point.TheVariants as points
use Rattle.wjs_model.specs.declared.point.Purpose.TheVariants as purposes
use Rattle.wjs_direct_lines.specs.Deeds.{refers_in}
use Rattle.wjs_direct_lines.proofs.Forming.{line_ended}
use Rattle.wjs_direct_lines.proofs.Parts.{given_does, later_stopped, stop_found}
use Rattle.wjs_direct_lines.proofs.targets.referred_by_value.Goals as goal

pub returns-in-Some-clause-does : goal.returns-in-Some-clause-does
returns-in-Some-clause-does g c =
    line_ended g.S.WorldStore.meaning refers_in c.args.config.now c.args.frame.now (λ t env. at_index (value_in t c.args.object) env refer (value_in t c.args.key)) c.in-Some.reference c.args.stops.now.waits c.args.stops.now.top
    (λ t more env. c.in-Some.ensures.ends t more env refer)

-- a frame goes on with the value
pub returns-in-None-clause-later : goal.returns-in-None-clause-later
returns-in-None-clause-later g c = later_stopped g.S.WorldStore.meaning {A = Reference} c.args.config.now c.stop_holding.new.config (Err c.stop_holding.result) c.requires.base c.stop_holding.ensures.same

pub returns-in-None-clause-found : goal.returns-in-None-clause-found
returns-in-None-clause-found g c =
    let s = c.stop_holding.new.stops in
    stop_found g.S.WorldStore.meaning c.args.config.now c.stop_holding.new.config c.args.frame.now c.args.node (holds.Value c.args.object ∷ []) (phases.Given (points.Expr (expr.Index purposes.Target)) (completions.Gives c.args.key)) c.stop_holding.result s.waits s.top c.stop_holding.ensures.same
    c.requires.there c.requires.node (c.requires.object, tt) (tt, c.requires.key) c.stop_holding.ensures.stops

pub returns-in-None-clause-does : goal.returns-in-None-clause-does
returns-in-None-clause-does g c =
    let s = c.stop_holding.new.stops in
    given_does g.S.WorldStore.meaning refers_in c.args.config.now c.stop_holding.new.config c.args.frame.now c.stop_holding.result s.waits s.top c.stop_holding.ensures.same
    c.args.node (holds.Value c.args.object ∷ []) (points.Expr (expr.Index purposes.Target)) (completions.Gives c.args.key) c.stop_holding.ensures.stops
