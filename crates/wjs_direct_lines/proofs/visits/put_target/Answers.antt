use Rattle.std.proofs.Common.{◌≡◌, ◌∷◌, List, ap, subst}
use Rattle.std.specs.Prelude.{OnOk}
use Rattle.wjs_model.specs.declared.frame.Activation.{Activation as Frame}
use Rattle.wjs_model.specs.declared.frame.Held.{Held}
use Rattle.wjs_model.specs.declared.point.Point.TheVariants as points
use Rattle.wjs_model.specs.declared.point.StmtPoint.TheVariants as stmt
use Rattle.wjs_stopping.specs.Waiting.{at_node, waiting_at}
use Rattle.wjs_direct_lines.proofs.visits.put_target.Goals as goal

pub returns-clause-waits : goal.returns-clause-waits
returns-clause-waits g c =
    let r = c.put_visits in
    subst (λ (h : List Held). OnOk r.result (r.new.stops.waits ≡ waiting_at (at_node c.args.frame.now c.args.node h) (points.Stmt (stmt.VisitTarget c.args.body)) ∷ c.args.stops.now.waits))
    (ap (λ (x : Frame). x.held) c.in_ok-hold.ensures.ok) r.ensures.waits
