use Rattle.std.proofs.Common.{Option, sym, subst}
use Rattle.wjs_base.specs.declared.ids.NodeId.{NodeId}
use Rattle.wjs_model.specs.Soundness.{StandsIf}
use Rattle.wjs_frames.specs.Handling.{GoesOn}
use Rattle.wjs_loops.specs.declared.rounds.Position.TheVariants as positions
use Rattle.wjs_loops.specs.Rounds.{position_in}
use Rattle.wjs_loops.proofs.rounds.update_entered.Goals as goal

pub enter-requires-clause-part : goal.enter-requires-clause-part
enter-requires-clause-part g c = subst (λ (o : Option NodeId). StandsIf c.args.config.now c.args.frame o) c.in-Some.is c.requires.update

pub returns-in-Some : goal.returns-in-Some
returns-in-Some g c = subst (λ (o : Option NodeId). GoesOn g.S.WorldStore.meaning c.args.frame c.args.config.now c.enter.new.config c.enter.result (λ t env. position_in t c.args.frame.node.0 env (positions.Update o))) (sym c.in-Some.is) c.enter.ensures

pub returns-in-None : goal.returns-in-None
returns-in-None g c = subst (λ (o : Option NodeId). GoesOn g.S.WorldStore.meaning c.args.frame c.args.config.now c.again_entered.new.config c.again_entered.result (λ t env. position_in t c.args.frame.node.0 env (positions.Update o))) (sym c.in-None.is) c.again_entered.ensures
