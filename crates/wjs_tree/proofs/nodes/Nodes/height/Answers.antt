use Rattle.std.proofs.Common.{◌<◌, List, max, length, sym, ap, subst, ◌∙◌, arith}
use Rattle.wjs_tree.specs.declared.node.Node.{Node}
use Rattle.wjs_tree.specs.declared.facts.Facts.{Facts}
use Rattle.wjs_tree.specs.Shows.{Shows, StmtShows, IsBody}
use Rattle.wjs_tree.proofs.Adding.{read}
use Rattle.wjs_tree.proofs.Heights.{of_node, height_is, stmt_height_is, elements_height_is}
use Rattle.wjs_tree.proofs.nodes.Nodes.height.Goals as goal

pub returns-clause-expr : goal.returns-clause-expr
returns-clause-expr c =
    λ t used h.
    (let same = c.self.invariant.same_length in
    let there : c.args.id.0 < length c.self.inside.list.items = subst (λ z. c.args.id.0 < length z) (sym c.self.view_is) c.requires in
    let within : c.args.id.0 < length c.self.inside.facts.items = omega arith in
    ap (λ (f : Facts). f.height) (read c.self.inside.facts.items c.args.id c.index.result.now within c.index.ensures)
    ∙ height_is c.self.inside.list.items c.self.inside.facts.items c.self.invariant t c.args.id used (subst (λ (z : List Node). Shows z t c.args.id used) (sym c.self.view_is) h))

pub returns-clause-stmt : goal.returns-clause-stmt
returns-clause-stmt c =
    λ t used h.
    (let same = c.self.invariant.same_length in
    let there : c.args.id.0 < length c.self.inside.list.items = subst (λ z. c.args.id.0 < length z) (sym c.self.view_is) c.requires in
    let within : c.args.id.0 < length c.self.inside.facts.items = omega arith in
    ap (λ (f : Facts). f.height) (read c.self.inside.facts.items c.args.id c.index.result.now within c.index.ensures)
    ∙ stmt_height_is c.self.inside.list.items c.self.inside.facts.items c.self.invariant t c.args.id used (subst (λ (z : List Node). StmtShows z t c.args.id used) (sym c.self.view_is) h))

pub returns-clause-body : goal.returns-clause-body
returns-clause-body c =
    λ t b.
    (let same = c.self.invariant.same_length in
    let there : c.args.id.0 < length c.self.inside.list.items = subst (λ z. c.args.id.0 < length z) (sym c.self.view_is) c.requires in
    let within : c.args.id.0 < length c.self.inside.facts.items = omega arith in
    let i : IsBody c.self.inside.list.items t c.args.id = subst (λ (z : List Node). IsBody z t c.args.id) (sym c.self.view_is) b in
    let n = of_node c.self.inside.list.items c.self.inside.facts.items c.self.invariant c.args.id _ i.has in
    ap (λ (f : Facts). f.height) (read c.self.inside.facts.items c.args.id c.index.result.now within c.index.ensures)
    ∙ n.right.height
    ∙ ap (λ z. max 1 z) (elements_height_is c.self.inside.list.items c.self.inside.facts.items c.self.invariant c.args.id.0 t i.list i.used i.shows n.below))
