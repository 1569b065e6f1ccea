use Rattle.std.proofs.Common.{sym, ◌∙◌}
use Rattle.wjs_base.specs.declared.values.Name.TheVariants as name
use Rattle.wjs_heap.specs.Means.{parts}
use Rattle.wjs_props.proofs.Cutting.{name_stays_put, name_goes_as, index_is_within, other_not_within, index_small}
use Rattle.wjs_props.proofs.cuts.cut_name.Goals as goal

pub returns-in_default : goal.returns-in_default
returns-in_default g c =
    let p = parts g.S.WorldStore.meaning in
    name_stays_put c.args.world c.args.object c.args.name c.args.from c.args.to (p c.args.heap.now) c.requires.heap
    (λ t grows. other_not_within c.args.from c.args.to c.args.heap.now.texts t c.requires.heap.table grows c.args.name c.requires.name c.in_default.not-Index)

pub returns-then-not-is_within : goal.returns-then-not-is_within
returns-then-not-is_within g c =
    let p = parts g.S.WorldStore.meaning in
    name_stays_put c.args.world c.args.object c.args.name c.args.from c.args.to (p c.args.heap.now) c.requires.heap
    (λ t grows. index_is_within c.args.from c.args.to t c.args.name c.in-Index.index c.in-Index.is (index_small c.args.heap.now.texts c.args.name c.in-Index.index c.in-Index.is c.requires.name) ∙ sym c.is_within.ensures ∙ c.if-not-is_within.true)

pub returns : goal.returns
returns g c =
    let p = parts g.S.WorldStore.meaning in
    name_goes_as c.args.world c.args.object c.args.name c.args.from c.args.to (p c.args.heap.now) (name.Index c.in-Index.index) c.in-Index.is (p c.write.new.heap)
    (λ t. index_is_within c.args.from c.args.to t c.args.name c.in-Index.index c.in-Index.is (index_small c.args.heap.now.texts c.args.name c.in-Index.index c.in-Index.is c.requires.name) ∙ sym c.is_within.ensures ∙ c.if-not-is_within.false) c.in_ok-write.ensures
