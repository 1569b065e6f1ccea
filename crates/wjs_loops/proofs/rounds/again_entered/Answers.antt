use Rattle.std.proofs.Common.{subst}
use Rattle.wjs_base.specs.declared.ids.NodeId.{NodeId}
use Rattle.wjs_meaning.specs.Deeds.{Again, Eval, Ret}
use Rattle.wjs_frames.specs.Handling.{GoesOn}
use Rattle.wjs_loops.proofs.rounds.again_entered.Goals as goal

pub enter_last-requires-clause-part : goal.enter_last-requires-clause-part
enter_last-requires-clause-part g c = rw c.node-node.ensures c.requires.runs.there.stands.node

pub returns : goal.returns
returns g c = subst (λ (id : NodeId). GoesOn g.S.WorldStore.meaning c.args.frame c.args.config.now c.enter_last.new.config c.enter_last.result (λ t env. Eval (Again id.0) env Ret)) c.node-node.ensures c.enter_last.ensures
