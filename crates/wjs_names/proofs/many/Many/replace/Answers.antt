use Rattle.std.proofs.Common.{◌∙◌, length, is_some, ap, sym}
use Rattle.std.specs.FinMap as map
use Rattle.wjs_names.specs.Dense.{index_in}
use Rattle.wjs_names.proofs.Dense.{placed, get_index, held_length, held_replaced}
use Rattle.wjs_names.proofs.many.Many.replace.Goals as goal

pub replace-requires : goal.replace-requires
replace-requires g c =
    let m = c.self.inside in
    (placed (length m.dense) c.args.name c.in-Some.place (sym (c.in-Some.ensures ∙ ap (λ k. index_in k c.args.name) c.len.ensures))).below

pub invariant_of-self : goal.invariant_of-self
invariant_of-self g c =
    let m = c.self.inside in
    rw (held_length m.dense c.replace.new.self c.in-Some.place c.args.value c.replace.result c.replace.ensures.replaced) c.self.invariant

pub returns-in-Some-clause-found : goal.returns-in-Some-clause-found
returns-in-Some-clause-found g c = λ t.
    let m = c.self.inside in
    ap (λ x. is_some (map.get x c.args.name)) (sym c.self.view_is)
    ∙ ap is_some (get_index m.dense m.rest.entries c.args.name c.in-Some.place c.self.invariant (sym (c.in-Some.ensures ∙ ap (λ k. index_in k c.args.name) c.len.ensures)))
    ∙ sym c.replace.ensures.found
    ∙ t

pub returns-in-Some-clause-replaced : goal.returns-in-Some-clause-replaced
returns-in-Some-clause-replaced g c =
    let m = c.self.inside in
    rw (← c.self.view_is) (held_replaced m.dense c.replace.new.self m.rest.entries c.args.name c.in-Some.place c.args.value c.replace.result c.self.invariant (sym (c.in-Some.ensures ∙ ap (λ k. index_in k c.args.name) c.len.ensures)) c.replace.ensures.replaced)
