-- The parts that a node may have, and the statements of a block, which stand where their frame is run.
use Rattle.std.proofs.Common.{◌≡◌, ℕ, Option, Some, inl, refl, sym, subst}
use Rattle.std.specs.Prelude.{slice_get}
use Rattle.wjs_base.specs.declared.ids.NodeId.{NodeId}
use Rattle.wjs_store.specs.Meaning.{Meaning}
use Rattle.wjs_tree.specs.declared.node.Node.{Node}
use Rattle.wjs_tree.specs.declared.node.Node.TheVariants as nodes
use Rattle.wjs_scope.specs.Nesting.{Around, option_part, parts, IsAmong}
use Rattle.wjs_model.specs.declared.config.Config.{Config}
use Rattle.wjs_model.specs.declared.frame.Activation.{Activation as Frame}
use Rattle.wjs_model.specs.Soundness.{IsThere, StandsHere}
use Rattle.wjs_frames.specs.Parts.{node_now}
use Rattle.wjs_frames.proofs.Parting.{among_at, among_around, stands_here}
use Rattle.wjs_step_common.specs.Lists.{statements_in}

pub option_among : (o : Option NodeId) (e : NodeId) → o ≡ Some e → IsAmong (option_part o) e
option_among o e q = subst (λ (x : Option NodeId). IsAmong (option_part x) e) (sym q) (inl refl)

block_among : (n : Node) (at : ℕ) (s : NodeId) → slice_get (statements_in n) at ≡ Some s → IsAmong (parts n) (s, Around)
block_among (nodes.Block ss) at s e = among_around ss s (among_at ss at s e)
block_among n at s e = absurd (cc)

-- a statement of a block
pub statement_stands : {S : Type 0} (meaning : S → Meaning) (c : Config S) (f : Frame) → IsThere meaning c f →
    (at : ℕ) (s : NodeId) → slice_get (statements_in (node_now meaning c f)) at ≡ Some s → StandsHere c f s
statement_stands meaning c f here at s e = stands_here meaning c f (node_now meaning c f) s here refl (block_among (node_now meaning c f) at s e)
