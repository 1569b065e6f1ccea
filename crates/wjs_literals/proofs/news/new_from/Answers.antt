use Rattle.std.proofs.Common.{sym}
use Rattle.wjs_meaning.specs.Constructions.{construct}
use Rattle.wjs_model.specs.Contents.{holding_in}
use Rattle.wjs_frames.specs.Parts.{env_in, node_now}
use Rattle.wjs_step_common.proofs.Following.{follows_as}
use Rattle.wjs_literals.proofs.CallLines.{new_enters, values_end}
use Rattle.wjs_literals.proofs.Standing.{argument_stands}
use Rattle.wjs_literals.proofs.news.new_from.Goals as goal

pub enter-requires-clause-part : goal.enter-requires-clause-part
enter-requires-clause-part g c =
    argument_stands g.S.WorldStore.meaning c.args.config.now c.args.frame c.requires.runs.there c.args.at c.in-Some.next (sym c.in-Some.ensures)

pub returns-in-Some : goal.returns-in-Some
returns-in-Some g c =
    let t = c.enter.new.config.heap.texts in
    let n = node_now g.S.WorldStore.meaning c.args.config.now c.args.frame in
    let env = env_in g.S.WorldStore.meaning c.args.config.now t c.args.frame in
    follows_as _ _ _ _ _ _ (λ grows. new_enters t n c.args.at c.in-Some.next (holding_in t c.args.frame.held) env (sym c.in-Some.ensures)) c.enter.ensures

pub returns-in-None : goal.returns-in-None
returns-in-None g c =
    let t = c.new_held.new.config.heap.texts in
    let n = node_now g.S.WorldStore.meaning c.args.config.now c.args.frame in
    let env = env_in g.S.WorldStore.meaning c.args.config.now t c.args.frame in
    let held = holding_in t c.args.frame.held in
    follows_as _ _ _ _ _ _ (λ grows. sym (values_end t n c.args.at held.values env (construct held.callee.0 env) (sym c.in-None.ensures))) c.new_held.ensures
