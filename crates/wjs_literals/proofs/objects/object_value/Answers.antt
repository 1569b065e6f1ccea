use Rattle.std.proofs.Common.{ap, sym}
use Rattle.wjs_by_content.specs.Tables.{value_in}
use Rattle.wjs_model.specs.Contents.{holding_in}
use Rattle.wjs_frames.specs.Parts.{env_in, node_now}
use Rattle.wjs_step_common.proofs.Following.{follows_as}
use Rattle.wjs_literals.proofs.Items.{key_known, object_writes, object_lacks}
use Rattle.wjs_literals.proofs.objects.object_value.Goals as goal

pub object_write-requires-clause-key : goal.object_write-requires-clause-key
object_write-requires-clause-key g c =
    key_known c.args.config.now.heap.texts c.args.config.now.units.items c.args.frame.tree c.args.frame.node c.args.at c.in-Some.property
    c.requires.runs.running.base.units (sym c.in-Some.ensures)

pub returns-in-Some : goal.returns-in-Some
returns-in-Some g c =
    let t = c.object_write.new.config.heap.texts in
    let n = node_now g.S.WorldStore.meaning c.args.config.now c.args.frame in
    let env = env_in g.S.WorldStore.meaning c.args.config.now t c.args.frame in
    follows_as _ _ _ _ _ _ (λ grows. sym (object_writes t n c.args.at c.in-Some.property (holding_in t c.args.frame.held) env c.args.object (value_in t c.args.value) (ap (value_in t) c.requires.held) (sym c.in-Some.ensures))) c.object_write.ensures

pub returns-in-None : goal.returns-in-None
returns-in-None g c =
    let t = c.finish.new.config.heap.texts in
    let n = node_now g.S.WorldStore.meaning c.args.config.now c.args.frame in
    let env = env_in g.S.WorldStore.meaning c.args.config.now t c.args.frame in
    follows_as _ _ _ _ _ _ (λ grows. sym (object_lacks t n c.args.at (holding_in t c.args.frame.held) env c.args.object (value_in t c.args.value) (ap (value_in t) c.requires.held) (sym c.in-None.ensures))) c.finish.ensures
