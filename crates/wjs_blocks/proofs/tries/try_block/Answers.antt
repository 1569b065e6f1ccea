use Rattle.std.proofs.Common.{◌≡◌, Option, sym, ap, ◌∙◌}
use Rattle.std.specs.Option.{option_map}
use Rattle.wjs_base.specs.declared.ids.NodeId.{NodeId}
use Rattle.wjs_tree.specs.declared.node.Handler.{Handler}
use Rattle.wjs_meaning.specs.Reading.{number, handler_in}
use Rattle.wjs_meaning.specs.Statements.{try_block}
use Rattle.wjs_model.specs.Contents.{completion_in}
use Rattle.wjs_frames.specs.Parts.{env_in, node_among, node_now}
use Rattle.wjs_step_common.proofs.Following.{follows_as}
use Rattle.wjs_blocks.specs.Tries.{catch_in}
use Rattle.wjs_blocks.proofs.Catching.{handler_same}
use Rattle.wjs_blocks.proofs.tries.try_block.Goals as goal

pub returns : goal.returns
returns g c =
    let meaning = g.S.WorldStore.meaning in
    let old = c.args.config.now in
    let t = c.block_ended.new.config.heap.texts in
    let env = env_in meaning old t c.args.frame in
    let node = node_now meaning old c.args.frame in
    let is : c.handler_at-handler.result ≡ catch_in node = c.handler_at-handler.ensures.is ∙ ap (λ (i : NodeId). catch_in (node_among old.units.items c.args.frame.tree i)) c.node.ensures in
    follows_as meaning _ _ _ _ c.block_ended.result (λ grows.
    ap (λ (h : Option Handler). try_block (option_map (handler_in t) h) (number c.args.last) env (completion_in t c.args.completion)) is
    ∙ sym (ap (λ h. try_block h (number c.args.last) env (completion_in t c.args.completion)) (handler_same t node))) c.block_ended.ensures

pub block_ended-requires-clause-handler : goal.block_ended-requires-clause-handler
block_ended-requires-clause-handler g c =
    sym (c.handler_at-handler.ensures.is ∙ ap (λ (i : NodeId). catch_in (node_among c.args.config.now.units.items c.args.frame.tree i)) c.node.ensures)
