use Rattle.std.proofs.Common.{◌∙◌, ap}
use Rattle.std.specs.FinMap as map
use Rattle.std.specs.Map.{lookup_entry}
use Rattle.wjs_base.specs.Order.{name_cmp}
use Rattle.wjs_rows.specs.Order.{is_from}
use Rattle.wjs_names.proofs.Firsts.{next_held, next_rest}
use Rattle.wjs_names.proofs.many.Many.next_from.Goals as goal

pub returns-in-Some : goal.returns-in-Some
returns-in-Some g c =
    let m = c.self.inside in
    next_held m.dense m.rest.entries c.self.invariant (is_from name_cmp c.args.name) c.in-Some.row c.in-Some.ensures
    ∙ ap (λ x. lookup_entry (is_from name_cmp c.args.name) (map.entries x)) c.self.view_is

pub returns-in-None : goal.returns-in-None
returns-in-None g c =
    let m = c.self.inside in
    next_rest m.dense m.rest.entries c.self.invariant (is_from name_cmp c.args.name) c.next_from.result c.in-None.ensures c.next_from.ensures
    ∙ ap (λ x. lookup_entry (is_from name_cmp c.args.name) (map.entries x)) c.self.view_is
