use Rattle.std.proofs.Common.{refl, sym, ◌∙◌}
use Rattle.wjs_base.specs.declared.values.Content.TheVariants.{Present}
use Rattle.wjs_heap.specs.Means.{parts}
use Rattle.wjs_props.proofs.Getting.{begins, ends_found}
use Rattle.wjs_props.proofs.reads.peek_held.Goals as goal

pub returns-in-None-clause-gets : goal.returns-in-None-clause-gets
returns-in-None-clause-gets g c =
    let p = parts g.S.WorldStore.meaning c.args.heap.now in
    ends_found c.args.world c.args.name c.args.object p p c.args.object (begins c.args.world c.args.name c.args.object p c.requires.heap c.requires.world c.requires.object c.in_ok-value.ensures.slot.name)
    p (Present c.in_ok-value.value) (sym c.fixed.ensures.fixed ∙ c.in-None.is) c.in_ok-value.ensures.reads c.in_ok-value.value refl

pub returns-in-None-clause-name : goal.returns-in-None-clause-name
returns-in-None-clause-name g c = c.in_ok-value.ensures.slot.name
