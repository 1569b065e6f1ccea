use Rattle.std.proofs.Common.{ap, sym}
use Rattle.wjs_by_content.specs.Tables.{value_in}
use Rattle.wjs_model.specs.Contents.{holding_in}
use Rattle.wjs_frames.specs.Parts.{env_in, node_now}
use Rattle.wjs_step_common.proofs.Following.{follows_as}
use Rattle.wjs_literals.proofs.Items.{object_enters, object_ends}
use Rattle.wjs_literals.proofs.Standing.{property_stands}
use Rattle.wjs_literals.proofs.objects.enter_property.Goals as goal

pub enter-requires-clause-part : goal.enter-requires-clause-part
enter-requires-clause-part g c =
    property_stands g.S.WorldStore.meaning c.args.config.now c.args.frame c.requires.runs.there c.args.at c.in-Some.property (sym c.in-Some.ensures)

pub returns-in-Some : goal.returns-in-Some
returns-in-Some g c =
    let t = c.enter.new.config.heap.texts in
    let n = node_now g.S.WorldStore.meaning c.args.config.now c.args.frame in
    let env = env_in g.S.WorldStore.meaning c.args.config.now t c.args.frame in
    follows_as _ _ _ _ _ _ (λ grows. object_enters t n c.args.at c.in-Some.property (holding_in t c.args.frame.held) env c.args.object (ap (value_in t) c.requires.held) (sym c.in-Some.ensures)) c.enter.ensures

pub returns-in-None : goal.returns-in-None
returns-in-None g c =
    let t = c.finish.new.config.heap.texts in
    let n = node_now g.S.WorldStore.meaning c.args.config.now c.args.frame in
    let env = env_in g.S.WorldStore.meaning c.args.config.now t c.args.frame in
    follows_as _ _ _ _ _ _ (λ grows. sym (object_ends t n c.args.at c.args.object env (sym c.in-None.ensures))) c.finish.ensures
