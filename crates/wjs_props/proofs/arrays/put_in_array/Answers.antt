use Rattle.std.proofs.Common.{sym, ◌∙◌, Some, None}
use Rattle.std.proofs.lemmas.Result.{IfOk-weaker}
use Rattle.wjs_heap.specs.Means.{parts}
use Rattle.wjs_props.proofs.Cutting.{index_small}
use Rattle.wjs_props.proofs.Putting.{index_handed, other_handed, length_handed, text_handed, spells_length, bad_length}
use Rattle.wjs_props.proofs.arrays.put_in_array.Goals as goal

pub put_index-requires-clause-index : goal.put_index-requires-clause-index
put_index-requires-clause-index g c = index_small c.args.heap.now.texts c.args.name c.in-Index.index c.in-Index.is c.requires.name

pub returns-in-Index : goal.returns-in-Index
returns-in-Index g c =
    let p = parts g.S.WorldStore.meaning in
    IfOk-weaker c.put_index.result _ _ (λ a f. index_handed c.args.world c.args.object c.args.value (p c.args.heap.now) (p c.put_index.new.heap) a c.requires.heap c.args.name c.in-Index.index c.in-Index.is c.requires.name f) c.put_index.ensures

pub is_length-requires : goal.is_length-requires
is_length-requires g c = text_handed c.args.heap.now.texts c.args.name c.in-Text.id c.in-Text.is c.requires.name

pub returns-then-not-is_length : goal.returns-then-not-is_length
returns-then-not-is_length g c =
    let p = parts g.S.WorldStore.meaning in
    IfOk-weaker c.put_slot.result _ _ (λ a f. other_handed c.args.world c.args.object c.args.value (p c.args.heap.now) (p c.put_slot.new.heap) a c.requires.heap c.args.name c.in-Text.id c.in-Text.is c.requires.name (sym c.is_length.ensures ∙ c.if-not-is_length.true) f) c.put_slot.ensures

pub returns-in-None : goal.returns-in-None
returns-in-None g c =
    let h = parts g.S.WorldStore.meaning c.args.heap.now in
    length_handed c.args.world c.args.object c.args.value h h _ c.requires.heap c.args.name c.in-Text.id c.in-Text.is c.requires.name (sym c.is_length.ensures ∙ c.if-not-is_length.false) None (λ t. c.length_of_value.ensures t ∙ c.in-None.is) (bad_length c.args.world c.args.object h c.requires.heap)

pub put_length-requires-clause-spells : goal.put_length-requires-clause-spells
put_length-requires-clause-spells g c = spells_length c.args.heap.now.texts c.in-Text.id (sym c.is_length.ensures ∙ c.if-not-is_length.false)

pub returns-in-Some : goal.returns-in-Some
returns-in-Some g c =
    let p = parts g.S.WorldStore.meaning in
    IfOk-weaker c.put_length.result _ _ (λ a f. length_handed c.args.world c.args.object c.args.value (p c.args.heap.now) (p c.put_length.new.heap) a c.requires.heap c.args.name c.in-Text.id c.in-Text.is c.requires.name (sym c.is_length.ensures ∙ c.if-not-is_length.false) (Some c.in-Some.length) (λ t. c.length_of_value.ensures t ∙ c.in-Some.is) f) c.put_length.ensures
