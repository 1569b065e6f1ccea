use Rattle.std.proofs.Common.{◌∙◌, length, ap, sym}
use Rattle.std.specs.FinMap as map
use Rattle.wjs_names.specs.Dense.{index_in}
use Rattle.wjs_names.proofs.Dense.{placed, get_index, get_rest}
use Rattle.wjs_names.proofs.many.Many.get.Goals as goal

pub value-requires : goal.value-requires
value-requires g c =
    let m = c.self.inside in
    (placed (length m.dense) c.args.name c.in-Some.place (sym (c.in-Some.ensures ∙ ap (λ k. index_in k c.args.name) c.len.ensures))).below

pub returns-in-Some : goal.returns-in-Some
returns-in-Some g c =
    let m = c.self.inside in
    c.value.ensures
    ∙ sym (get_index m.dense m.rest.entries c.args.name c.in-Some.place c.self.invariant (sym (c.in-Some.ensures ∙ ap (λ k. index_in k c.args.name) c.len.ensures)))
    ∙ ap (λ x. map.get x c.args.name) c.self.view_is

pub returns-in-None : goal.returns-in-None
returns-in-None g c =
    let m = c.self.inside in
    c.get.ensures
    ∙ sym (get_rest m.dense m.rest.entries c.args.name (sym (c.in-None.ensures ∙ ap (λ k. index_in k c.args.name) c.len.ensures)))
    ∙ ap (λ x. map.get x c.args.name) c.self.view_is
