use Rattle.std.proofs.Common.{ap, sym, ◌∙◌}
use Rattle.wjs_by_content.specs.Tables.{value_in}
use Rattle.wjs_model.specs.Contents.{holding_in}
use Rattle.wjs_frames.specs.Parts.{env_in, node_now}
use Rattle.wjs_step_common.proofs.Following.{follows_as}
use Rattle.wjs_literals.proofs.Items.{items_rest, array_enters}
use Rattle.wjs_literals.proofs.Standing.{item_stands}
use Rattle.wjs_literals.proofs.arrays.enter_item.Goals as goal

pub enter-requires-clause-part : goal.enter-requires-clause-part
enter-requires-clause-part g c =
    item_stands g.S.WorldStore.meaning c.args.config.now c.args.frame c.requires.runs.there c.in-Item.at c.in-Item.node c.in-Item.ensures.0

pub returns-in_ok-number-in-Item : goal.returns-in_ok-number-in-Item
returns-in_ok-number-in-Item g c =
    let t = c.enter.new.config.heap.texts in
    let n = node_now g.S.WorldStore.meaning c.args.config.now c.args.frame in
    let env = env_in g.S.WorldStore.meaning c.args.config.now t c.args.frame in
    follows_as _ _ _ _ _ _ (λ grows.
    array_enters t n c.in-Item.at c.in_ok-number-in-Item.number c.in-Item.node (holding_in t c.args.frame.held) env c.args.array c.in_ok-number-in-Item.ensures (ap (value_in t) c.requires.held) c.in-Item.ensures.0
    ∙ sym (items_rest t n c.in-Item.at c.args.array env)
    ∙ sym (c.in-Item.ensures.1 c.args.array env)
    ∙ items_rest t n c.args.from c.args.array env) c.enter.ensures

pub returns-in-Last : goal.returns-in-Last
returns-in-Last g c =
    let t = c.last_item.new.config.heap.texts in
    let n = node_now g.S.WorldStore.meaning c.args.config.now c.args.frame in
    let env = env_in g.S.WorldStore.meaning c.args.config.now t c.args.frame in
    follows_as _ _ _ _ _ _ (λ grows. sym (items_rest t n c.in-Last.at c.args.array env) ∙ sym (c.in-Last.ensures.2 c.args.array env) ∙ items_rest t n c.args.from c.args.array env) c.last_item.ensures

pub returns-in-End : goal.returns-in-End
returns-in-End g c =
    let t = c.array_end.new.config.heap.texts in
    let n = node_now g.S.WorldStore.meaning c.args.config.now c.args.frame in
    let env = env_in g.S.WorldStore.meaning c.args.config.now t c.args.frame in
    follows_as _ _ _ _ _ _ (λ grows. sym (c.in-End.ensures c.args.array env) ∙ items_rest t n c.args.from c.args.array env) c.array_end.ensures
