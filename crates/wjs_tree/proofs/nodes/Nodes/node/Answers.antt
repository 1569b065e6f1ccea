use Rattle.std.proofs.Common.{◌<◌, List, length, refl, sym, subst}
use Rattle.std.proofs.lemmas.Option.{slice_get_read}
use Rattle.wjs_tree.specs.declared.node.Node.{Node}
use Rattle.wjs_tree.proofs.nodes.Nodes.node.Goals as goal

pub returns-clause-below : goal.returns-clause-below
returns-clause-below c =
    let items = c.self.inside.list.items in
    let within : c.args.id.0 < length items = subst (λ (z : List Node). c.args.id.0 < length z) (sym c.self.view_is) c.requires in
    (c.self.invariant.each c.args.id.0 c.index.result.now (slice_get_read items (length items) c.args.id.0 c.index.result.now refl within c.index.ensures)).below
