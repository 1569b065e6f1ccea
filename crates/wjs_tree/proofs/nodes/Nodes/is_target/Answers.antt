use Rattle.std.proofs.Common.{◌<◌, List, length, sym, ap, subst, ◌∙◌, arith}
use Rattle.wjs_tree.specs.declared.node.Node.{Node}
use Rattle.wjs_tree.specs.declared.facts.Facts.{Facts}
use Rattle.wjs_tree.specs.Shows.{Shows}
use Rattle.wjs_tree.proofs.Adding.{read}
use Rattle.wjs_tree.proofs.Tests.{target_is}
use Rattle.wjs_tree.proofs.nodes.Nodes.is_target.Goals as goal

pub returns : goal.returns
returns c =
    λ t used h.
    (let same = c.self.invariant.same_length in
    let there : c.args.id.0 < length c.self.inside.list.items = subst (λ z. c.args.id.0 < length z) (sym c.self.view_is) c.requires in
    let within : c.args.id.0 < length c.self.inside.facts.items = omega arith in
    ap (λ (f : Facts). f.is_target) (read c.self.inside.facts.items c.args.id c.index.result.now within c.index.ensures)
    ∙ target_is c.self.inside.list.items c.self.inside.facts.items c.self.invariant t c.args.id used (subst (λ (z : List Node). Shows z t c.args.id used) (sym c.self.view_is) h))
