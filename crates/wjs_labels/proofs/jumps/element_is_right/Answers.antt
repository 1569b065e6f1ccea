use Rattle.std.proofs.Common.{inl, inr}
use Rattle.std.proofs.lemmas.Option.{slice_get_within}
use Rattle.wjs_tree.proofs.Steps.{within}
use Rattle.wjs_labels.proofs.jumps.element_is_right.Goals as goal

pub node-requires : goal.node-requires
node-requires c = elim c.requires [ inl h ↦ within c.args.nodes.now c.args.id h.0 h.1 | inr h ↦ slice_get_within c.args.nodes.now c.args.id.0 _ h.3 ]
