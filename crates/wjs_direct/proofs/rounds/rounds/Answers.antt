use Rattle.std.proofs.Common.{subst}
use Rattle.wjs_base.specs.declared.ids.NodeId.{NodeId}
use Rattle.wjs_meaning.specs.Deeds.{Again}
use Rattle.wjs_model.specs.Contents.{completion_in}
use Rattle.wjs_frames.specs.Parts.{env_in}
use Rattle.wjs_stopping.specs.Evaluating.{Evaluates}
use Rattle.wjs_direct_lines.specs.Deeds.{goal_here}
use Rattle.wjs_direct_lines.proofs.Behind.{goal_follows}
use Rattle.wjs_direct.proofs.rounds.rounds.Goals as goal

pub returns : goal.returns
returns g c =
    let m = g.S.WorldStore.meaning in
    let old = c.args.config.now in
    let mid = c.iterations-done.new.config in
    let f = c.args.frame in
    let k = c.iterations-done.new.stops in
    goal_follows m completion_in (Again f.node.0) (λ t. env_in m old t f) c.iterations-done.result k.waits k.top old mid c.finish_end.new.config c.finish_end.result
    (subst (λ (i : NodeId). Evaluates m (goal_here m old f (Again i.0)) completion_in c.iterations-done.result k.waits k.top old mid) c.node-node.ensures c.iterations-done.ensures.does)
    c.finish_end.ensures.memory c.finish_end.ensures.follows
