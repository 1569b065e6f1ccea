use Rattle.std.proofs.Common.{◌+◌, [], Some, ap}
use Rattle.wjs_by_content.specs.Names.{slot, index_name}
use Rattle.wjs_by_content.specs.Tables.{value_in}
use Rattle.wjs_meaning.specs.Deeds.{Do, Write, Gives, then_value}
use Rattle.wjs_meaning.specs.Expressions.{array_from}
use Rattle.wjs_model.specs.Contents.{holding_in}
use Rattle.wjs_frames.specs.Parts.{env_in, node_now}
use Rattle.wjs_frames.proofs.Handling.{runs_later}
use Rattle.wjs_step_common.proofs.Following.{follows_as}
use Rattle.wjs_literals.proofs.Items.{array_enters, last_next}
use Rattle.wjs_literals.proofs.Lines.{does_line}
use Rattle.wjs_literals.proofs.Standing.{item_stands}
use Rattle.wjs_literals.proofs.arrays.last_item.Goals as goal

pub array_last-requires-clause-runs : goal.array_last-requires-clause-runs
array_last-requires-clause-runs g c = runs_later _ _ _ _ c.requires.runs c.quick.ensures.later

pub array_last-requires-clause-array : goal.array_last-requires-clause-array
array_last-requires-clause-array g c = c.quick.ensures.later.objects c.args.array c.requires.array

pub enter-requires-clause-runs : goal.enter-requires-clause-runs
enter-requires-clause-runs g c = runs_later _ _ _ _ c.requires.runs c.quick.ensures.later

pub enter-requires-clause-part : goal.enter-requires-clause-part
enter-requires-clause-part g c =
    rw c.in-None.ensures.same (item_stands g.S.WorldStore.meaning c.args.config.now c.args.frame c.requires.runs.there c.args.at c.args.node c.requires.item)

-- its value is had, and written with the length
pub returns-in-Some : goal.returns-in-Some
returns-in-Some g c =
    let m = g.S.WorldStore.meaning in
    let f = c.args.frame in
    let o = c.args.array in
    let i = c.in_ok-number.number in
    let old = c.args.config.now in
    let t = c.array_last.new.config.heap.texts in
    let n = node_now m old f in
    let last = last_next t n c.args.at i c.args.node o (env_in m old t f) c.in_ok-number.ensures c.requires.item in
    follows_as _ _ _ _ _ _ (λ grows. last (rw c.in_ok-number.ensures c.requires.last))
    (does_line m _ (λ t. Gives (value_in t c.in-Some.value)) f (λ us e. then_value (λ x. Do (Write e.world (slot o (index_name i)) (Some x)) (λ done. array_from [] (i + 1) o e)))
    old c.quick.new.config c.array_last.new.config c.array_last.result c.in-Some.ensures.does c.quick.ensures.later c.array_last.ensures)

pub returns-in-None : goal.returns-in-None
returns-in-None g c =
    let t = c.enter.new.config.heap.texts in
    let n = node_now g.S.WorldStore.meaning c.args.config.now c.args.frame in
    let env = env_in g.S.WorldStore.meaning c.args.config.now t c.args.frame in
    follows_as _ _ _ _ _ _ (λ grows. array_enters t n c.args.at c.in_ok-number.number c.args.node (holding_in t c.args.frame.held) env c.args.array c.in_ok-number.ensures (ap (value_in t) c.requires.held) c.requires.item)
    (rw c.in-None.ensures.same at c.enter.ensures)
