-- A labelled statement by content.
use Rattle.std.proofs.Common.{◌≡◌, None, Some, refl, ap}
use Rattle.wjs_base.specs.declared.ids.TextId.{TextId}
use Rattle.wjs_base.specs.Text.{Table}
use Rattle.wjs_tree.specs.declared.node.Node.{Node as NumberedNode}
use Rattle.wjs_tree.specs.declared.node.Node.TheVariants as nodes
use Rattle.wjs_by_content.specs.Values.{Text}
use Rattle.wjs_by_content.specs.Tables.{text_in}
use Rattle.wjs_meaning.specs.Reading.{node_in}
use Rattle.wjs_meaning.specs.Deeds.{Act, Ret, Normal}
use Rattle.wjs_model.specs.Lists.{if_label}
use Rattle.wjs_loops.specs.Labels.{label_of}

-- its label
pub labelled : (t : Table) (n : NumberedNode) (name : TextId) (go : Text → Act) → Some name ≡ label_of n → go (text_in t name) ≡ if_label (node_in t n) go
labelled t (nodes.Label x s) name go e = let q : name ≡ x = cc in ap (λ (y : TextId). go (text_in t y)) q
labelled t _ name go e = absurd (cc)

-- another statement has none
pub unlabelled : (t : Table) (n : NumberedNode) (go : Text → Act) → None ≡ label_of n → Ret Normal ≡ if_label (node_in t n) go
unlabelled t (nodes.Label x s) go e = absurd (cc)
unlabelled t _ go e = refl
