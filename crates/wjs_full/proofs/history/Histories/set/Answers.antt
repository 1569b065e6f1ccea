use Rattle.std.proofs.Common.{ap, ◌∙◌}
use Rattle.std.specs.FinMap as map
use Rattle.wjs_base.specs.Order.{world_total, world_exact}
use Rattle.wjs_full.specs.History.{Histories}
use Rattle.wjs_base.proofs.Trees.{insert_tree}
use Rattle.wjs_full.proofs.history.Histories.set.Goals as goal

pub returns : goal.returns
returns c =
    let h = c.in_ok-insert.ensures.updates in
    let p = ap (λ (H : Histories). H.parents) c.self.view_is in
    let q = insert_tree world_total world_exact c.self.inside.places c.insert.new.self c.args.world c.args.places h.0 ∙ ap (λ (H : Histories). map.insert H.places c.args.world c.args.places) c.self.view_is in
    record { ok = λ i. record { parents = p i; places = q i } }
