use Rattle.std.proofs.Common.{ap, ◌∙◌}
use Rattle.std.specs.FinMap as map
use Rattle.std.specs.Cmp.{nat_cmp_total}
use Rattle.std.specs.FinMap.{nat_cmp-IsAntisymmetric}
use Rattle.wjs_base.proofs.Trees.{insert_tree}
use Rattle.wjs_overlay.proofs.numbers.Owners.insert.Goals as goal

pub returns : goal.returns
returns c =
    let h = c.in_ok-insert.ensures.updates in
    record { ok = insert_tree nat_cmp_total nat_cmp-IsAntisymmetric c.self.inside.tree c.insert.new.self c.args.owner c.args.count h.0 ∙ ap (λ m. map.insert m c.args.owner c.args.count) c.self.view_is }
