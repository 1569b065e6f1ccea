use Rattle.std.proofs.Common.{sym, ◌∙◌}
use Rattle.std.proofs.lemmas.Result.{IfOk-weaker}
use Rattle.wjs_heap.specs.Means.{parts}
use Rattle.wjs_props.proofs.Putting.{put_ignored, put_array, put_other}
use Rattle.wjs_props.proofs.writes.put.Goals as goal

pub returns-then-not-is_puttable : goal.returns-then-not-is_puttable
returns-then-not-is_puttable g c =
    let p = parts g.S.WorldStore.meaning in
    put_ignored c.args.world c.args.object c.args.value c.args.name (p c.args.heap.now) c.requires.heap c.requires.name (sym c.is_puttable.ensures ∙ c.if-not-is_puttable.true)

pub returns-then-is_array : goal.returns-then-is_array
returns-then-is_array g c =
    let p = parts g.S.WorldStore.meaning in
    IfOk-weaker c.put_in_array.result _ _ (λ a f. put_array c.args.world c.args.object c.args.value (p c.args.heap.now) (p c.put_in_array.new.heap) a c.requires.heap c.args.name c.requires.name (sym c.is_puttable.ensures ∙ c.if-not-is_puttable.false) (λ t. c.is_array.ensures t ∙ c.if-is_array.true) f) c.put_in_array.ensures

pub returns : goal.returns
returns g c =
    let p = parts g.S.WorldStore.meaning in
    IfOk-weaker c.put_slot.result _ _ (λ a f. put_other c.args.world c.args.object c.args.value (p c.args.heap.now) (p c.put_slot.new.heap) a c.requires.heap c.args.name c.requires.name (sym c.is_puttable.ensures ∙ c.if-not-is_puttable.false) (λ t. c.is_array.ensures t ∙ c.if-is_array.false) f) c.put_slot.ensures
