use Rattle.std.proofs.Common.{subst, arith, ap, ◌∙◌, is_some}
use Rattle.wjs_tree.specs.declared.node.Node.{Node}
use Rattle.wjs_tree.specs.Children.{ChildrenBelow}
use Rattle.wjs_tree.specs.Forms.{HasForm}
use Rattle.wjs_tree.proofs.Forms.{form_of, loop_told}
use Rattle.wjs_tree.proofs.Steps.{within}
use Rattle.wjs_labels.proofs.Loops.{label_there, label_loop}
use Rattle.wjs_labels.proofs.jumps.+is_loop.Goals as goal

pub node-requires : goal.node-requires
node-requires t c = within c.args.nodes.now c.args.id c.requires.0 c.requires.1

pub is_loop-requires : goal.is_loop-requires
is_loop-requires t c = let below = subst (ChildrenBelow c.args.id.0) c.in-Label.is c.node.ensures.below in (omega arith, label_there c.args.nodes.now c.in-Label.field-0 c.in-Label.body c.requires.0 (subst (λ (n : Node). HasForm c.args.nodes.now n c.requires.0) c.in-Label.is (form_of c.args.nodes.now c.args.id c.node.result.now c.node.ensures.there c.requires.0 c.requires.1.0 c.requires.1.1)))

pub returns-in-Label : goal.returns-in-Label
returns-in-Label t c = λ u p. label_loop c.args.nodes.now c.in-Label.field-0 c.in-Label.body u c.is_loop.result c.is_loop.ensures (subst (λ (n : Node). HasForm c.args.nodes.now n u) c.in-Label.is (form_of c.args.nodes.now c.args.id c.node.result.now c.node.ensures.there u p.0 p.1))

pub returns-in_default : goal.returns-in_default
returns-in_default t c = λ u p. c.is_some.ensures ∙ ap is_some c.loop_body.ensures ∙ loop_told c.args.nodes.now c.args.id c.node.result.now c.node.ensures.there c.in_default.not-Label u p.0 p.1
