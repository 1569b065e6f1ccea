use Rattle.std.proofs.Common.{sym, ap, ◌∙◌}
use Rattle.wjs_base.specs.declared.ids.NodeId.{NodeId}
use Rattle.wjs_meaning.specs.Loops.{after_body, loop_update}
use Rattle.wjs_meaning.specs.Reading.{number}
use Rattle.wjs_model.specs.Contents.{completion_in}
use Rattle.wjs_frames.specs.Parts.{env_in}
use Rattle.wjs_loops.proofs.rounds.position_after.Goals as goal

pub returns-in-Again-clause-is : goal.returns-in-Again-clause-is
returns-in-Again-clause-is g c = λ t grows.
    let f = c.args.frame.now in
    let env = env_in g.S.WorldStore.meaning c.args.config.now t f in
    let again = loop_update f.node.0 (number c.args.u) env in
    ap (λ (i : NodeId). after_body i.0 env again (completion_in t c.args.completion)) (sym c.node.ensures) ∙ c.in-Again.ensures.means t grows again

pub returns-in-Ends-clause-is : goal.returns-in-Ends-clause-is
returns-in-Ends-clause-is g c = λ t grows.
    let f = c.args.frame.now in
    let env = env_in g.S.WorldStore.meaning c.args.config.now t f in
    let again = loop_update f.node.0 (number c.args.u) env in
    ap (λ (i : NodeId). after_body i.0 env again (completion_in t c.args.completion)) (sym c.node.ensures) ∙ c.in-Ends.ensures.means t grows again

pub returns-in-Ends-clause-found : goal.returns-in-Ends-clause-found
returns-in-Ends-clause-found g c = c.in-Ends.ensures.there
