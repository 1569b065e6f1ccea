use Rattle.wjs_meaning.specs.Deeds.{then_reference}
use Rattle.wjs_meaning.specs.Expressions.{call_reference}
use Rattle.wjs_meaning.specs.Reading.{node_in}
use Rattle.wjs_model.specs.declared.point.ExprPoint.TheVariants as exprs
use Rattle.wjs_model.specs.declared.point.Point.TheVariants as points
use Rattle.wjs_model.specs.Lists.{arguments_of}
use Rattle.wjs_frames.specs.declared.part.Part.TheVariants as parts
use Rattle.wjs_frames.specs.Parts.{node_among}
use Rattle.wjs_frames.proofs.Handling.{runs_later}
use Rattle.wjs_frames.proofs.Parting.{stands_later}
use Rattle.wjs_quick.proofs.Entering.{entered_slowly}
use Rattle.wjs_literals.proofs.Lines.{does_line}
use Rattle.wjs_literals.proofs.calls.target_called.Goals as goal

-- the reference was had at once
pub call_reference-requires-clause-runs : goal.call_reference-requires-clause-runs
call_reference-requires-clause-runs g c = runs_later _ _ _ _ c.requires.runs c.reference_at_once.ensures.later

pub returns-in-Some : goal.returns-in-Some
returns-in-Some g c =
    let f = c.args.frame in
    let t = c.call_reference.new.config.heap.texts in
    does_line g.S.WorldStore.meaning _ _ f (λ us e. then_reference (call_reference (arguments_of (node_in t (node_among us f.tree f.node))) e))
    c.args.config.now c.reference_at_once.new.config c.call_reference.new.config c.call_reference.result c.in-Some.ensures.does c.reference_at_once.ensures.later c.call_reference.ensures

-- it is entered
pub enter-requires-clause-runs : goal.enter-requires-clause-runs
enter-requires-clause-runs g c = runs_later _ _ _ _ c.requires.runs c.reference_at_once.ensures.later

pub enter-requires-clause-part : goal.enter-requires-clause-part
enter-requires-clause-part g c =
    stands_later g.S.WorldStore.meaning c.args.config.now c.args.frame c.reference_at_once.new.config c.args.callee c.reference_at_once.ensures.later c.requires.callee

pub returns-in-None : goal.returns-in-None
returns-in-None g c =
    entered_slowly g.S.WorldStore.meaning c.args.frame (parts.Target c.args.callee) c.args.config.now c.reference_at_once.new.config c.enter.new.config c.enter.result
    (points.Expr exprs.CalleeTarget) c.in-None.ensures.same c.enter.ensures
