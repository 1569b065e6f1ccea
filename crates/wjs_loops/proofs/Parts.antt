-- The parts of statements stand where their frame is run.
use Rattle.std.proofs.Common.{◌≡◌, Option, inr}
use Rattle.wjs_base.specs.declared.ids.NodeId.{NodeId}
use Rattle.wjs_store.specs.Meaning.{Meaning}
use Rattle.wjs_tree.specs.declared.node.Handler.{Handler}
use Rattle.wjs_tree.specs.declared.node.Node.{Node}
use Rattle.wjs_tree.specs.declared.node.Node.TheVariants as nodes
use Rattle.wjs_scope.specs.Nesting.{Around, caught_part, on_side, option_part, parts, IsAmong}
use Rattle.wjs_model.specs.declared.config.Config.{Config}
use Rattle.wjs_model.specs.declared.frame.Activation.{Activation as Frame}
use Rattle.wjs_model.specs.Soundness.{IsThere, StandsHere, StandsIf}
use Rattle.wjs_frames.specs.Parts.{node_now}
use Rattle.wjs_frames.proofs.Parting.{among_right, among_around, stands_here}
use Rattle.wjs_effects.proofs.Parted.{option_among}
use Rattle.wjs_effects.proofs.StandingFors.{maybe_stands}

module _ {S : Type 0} (meaning : S → Meaning) (c : Config S) (f : Frame) (here : IsThere meaning c f) where
  pub part_stands : (n : Node) (j : NodeId) → node_now meaning c f ≡ n → IsAmong (parts n) (j, Around) → StandsHere c f j
  part_stands n j e among = stands_here meaning c f n j here e among

  -- the second part of an `if`
  pub other_stands : (e s : NodeId) (other : Option NodeId) → node_now meaning c f ≡ nodes.If e s other → StandsIf c f other
  other_stands e s other is = maybe_stands meaning c f here (nodes.If e s other) other is (λ j q. inr (inr (among_around (option_part other) j (option_among other j q))))

  -- the `finally` of a `try`
  pub last_stands : (b : NodeId) (handler : Option Handler) (last : Option NodeId) → node_now meaning c f ≡ nodes.Try b handler last → StandsIf c f last
  last_stands b handler last is =
      maybe_stands meaning c f here (nodes.Try b handler last) last is (λ j q.
      inr (among_right (caught_part handler) (on_side Around (option_part last)) (j, Around) (among_around (option_part last) j (option_among last j q))))
