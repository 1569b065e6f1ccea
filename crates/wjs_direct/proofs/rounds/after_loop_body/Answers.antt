use Rattle.std.proofs.Common.{Option, sym, ap, ◌∙◌}
use Rattle.wjs_base.specs.declared.ids.NodeId.{NodeId}
use Rattle.wjs_meaning.specs.Deeds.{Again, AtExpr, Eval, Ret, then_value}
use Rattle.wjs_meaning.specs.Loops.{loop_body, loop_update, loop_updated}
use Rattle.wjs_meaning.specs.Reading.{number}
use Rattle.wjs_model.specs.Contents.{completion_in}
use Rattle.wjs_frames.specs.Parts.{env_in}
use Rattle.wjs_step_common.proofs.Following.{follows_as}
use Rattle.wjs_direct.proofs.rounds.after_loop_body.Goals as goal

pub returns-in-Some : goal.returns-in-Some
returns-in-Some g c =
    let m = g.S.WorldStore.meaning in
    let old = c.args.config.now in
    let new = c.update_and_rounds.new.config in
    let t = new.heap.texts in
    let f = c.args.frame in
    let env = env_in m old t f in
    follows_as m (Eval (AtExpr c.in-Some.e.0) env (then_value (loop_updated f.node.0 env))) (loop_body f.node.0 (number c.args.update) env (completion_in t c.args.end)) old new c.update_and_rounds.result
    (λ more. sym (c.requires.followed t more (loop_update f.node.0 (number c.args.update) env) ∙ ap (λ (o : Option NodeId). loop_update f.node.0 (number o) env) c.in-Some.is))
    c.update_and_rounds.ensures

pub returns-in-None : goal.returns-in-None
returns-in-None g c =
    let m = g.S.WorldStore.meaning in
    let old = c.args.config.now in
    let new = c.rounds.new.config in
    let t = new.heap.texts in
    let f = c.args.frame in
    let env = env_in m old t f in
    follows_as m (Eval (Again f.node.0) env Ret) (loop_body f.node.0 (number c.args.update) env (completion_in t c.args.end)) old new c.rounds.result
    (λ more. sym (c.requires.followed t more (loop_update f.node.0 (number c.args.update) env) ∙ ap (λ (o : Option NodeId). loop_update f.node.0 (number o) env) c.in-None.is))
    c.rounds.ensures
