use Rattle.std.proofs.Common.{◌≡◌, [], sym, ap, ◌∙◌, unwrap_or}
use Rattle.std.specs.FinMap as map
use Rattle.wjs_base.specs.Order.{world_total, world_exact}
use Rattle.wjs_full.specs.History.{Histories}
use Rattle.wjs_base.proofs.Trees.{get_tree, remove_tree}
use Rattle.wjs_full.proofs.history.Histories.take.Goals as goal
use Rattle.wjs_full.proofs.history.Histories.take.Goals.{in-Some, in-None}

pub returns-clause-places : goal.returns-clause-places
returns-clause-places c =
    let g : c.remove.result ≡ map.get c.args.self.now.places c.args.world = c.remove.ensures.value ∙ sym (get_tree world_total c.self.inside.places c.args.world) ∙ ap (λ (H : Histories). map.get H.places c.args.world) c.self.view_is in
    elim c.match-remove.branch [
      | in-Some w ↦ w.result-is ∙ ap (λ o. unwrap_or o []) (sym w.in-Some.is ∙ g)
      | in-None w ↦ w.result-is ∙ w.new.ensures ∙ ap (λ o. unwrap_or o []) (sym w.in-None.is ∙ g)
    ]

pub returns-clause-emptied : goal.returns-clause-emptied
returns-clause-emptied c =
    let p = ap (λ (H : Histories). H.parents) c.self.view_is in
    let q = remove_tree world_total world_exact c.self.inside.places c.remove.new.self c.args.world c.remove.ensures.updates.0 ∙ ap (λ (H : Histories). map.remove H.places c.args.world) c.self.view_is in
    λ i. record { parents = p i; places = q i }
