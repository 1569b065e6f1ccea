use Rattle.std.proofs.Common.{ap}
use Rattle.wjs_base.specs.declared.ids.NodeId.{NodeId}
use Rattle.wjs_meaning.specs.Reading.{node_in}
use Rattle.wjs_meaning.specs.Deeds.{Sub, then_normal}
use Rattle.wjs_meaning.specs.Loops.{loop_from}
use Rattle.wjs_meaning.specs.Statements.{vars_from}
use Rattle.wjs_model.specs.Lists.{if_for, variables_of}
use Rattle.wjs_frames.specs.Parts.{env_in, node_among, node_now}
use Rattle.wjs_step_common.proofs.Following.{follows_as}
use Rattle.wjs_loops.proofs.fors.for_variables.Goals as goal

pub returns : goal.returns
returns g c =
    let t = c.nest.new.config.heap.texts in
    let old = c.args.config.now in
    let f = c.args.frame in
    let meaning = g.S.WorldStore.meaning in
    let env = env_in meaning old t f in
    follows_as meaning _ _ _ _ c.nest.result (λ grows.
    ap (λ (id : NodeId). Sub (vars_from id.0 0 (variables_of (node_in t (node_among old.units.items f.tree id))) env)
    (then_normal (if_for (node_in t (node_now meaning old f)) (λ test update s. loop_from f.node.0 test update s env)))) c.node-node.ensures) c.nest.ensures
