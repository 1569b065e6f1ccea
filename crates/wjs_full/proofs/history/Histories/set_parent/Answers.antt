use Rattle.std.proofs.Common.{ap, ◌∙◌}
use Rattle.std.specs.FinMap as map
use Rattle.wjs_base.specs.Order.{world_total, world_exact}
use Rattle.wjs_full.specs.History.{Histories}
use Rattle.wjs_base.proofs.Trees.{insert_tree}
use Rattle.wjs_full.proofs.history.Histories.set_parent.Goals as goal

pub returns : goal.returns
returns c =
    let h = c.in_ok-insert.ensures.updates in
    let p = insert_tree world_total world_exact c.self.inside.parents c.insert.new.self c.args.child c.args.parent h.0 ∙ ap (λ (H : Histories). map.insert H.parents c.args.child c.args.parent) c.self.view_is in
    let q = ap (λ (H : Histories). H.places) c.self.view_is in
    record { ok = λ i. record { parents = p i; places = q i } }
