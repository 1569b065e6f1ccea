-- The test, the update and the body of a `for` stand where their frame is run.
use Rattle.std.proofs.Common.{◌≡◌, List, [], ◌∷◌, ◌++◌, Option, None, Some, inl, refl}
use Rattle.wjs_base.specs.declared.ids.NodeId.{NodeId}
use Rattle.wjs_store.specs.Meaning.{Meaning}
use Rattle.wjs_tree.specs.declared.node.ForInit.{ForInit}
use Rattle.wjs_tree.specs.declared.node.Node.{Node}
use Rattle.wjs_tree.specs.declared.node.Node.TheVariants as nodes
use Rattle.wjs_scope.specs.Nesting.{Around, option_part, init_parts, plain_parts, parts, IsAmong}
use Rattle.wjs_model.specs.declared.config.Config.{Config}
use Rattle.wjs_model.specs.declared.frame.Activation.{Activation as Frame}
use Rattle.wjs_model.specs.Soundness.{IsThere, StandsHere, StandsIf}
use Rattle.wjs_frames.specs.Parts.{node_now}
use Rattle.wjs_frames.proofs.Parting.{among_left, among_right, among_around, stands_here}
use Rattle.wjs_effects.proofs.Parted.{option_among}

module _ {S : Type 0} (meaning : S → Meaning) (c : Config S) (f : Frame) (here : IsThere meaning c f) where
  -- a part that may be missing
  pub maybe_stands : (n : Node) (o : Option NodeId) → node_now meaning c f ≡ n → ((j : NodeId) → o ≡ Some j → IsAmong (parts n) (j, Around)) → StandsIf c f o
  maybe_stands n None e among = tt
  maybe_stands n (Some j) e among = stands_here meaning c f n j here e (among j refl)

  -- the test, the update and the body of a `for`
  module _ (first : ForInit) (t u : Option NodeId) (s : NodeId) (is : node_now meaning c f ≡ nodes.For first t u s) where
    abbrev loop : Node
    loop = nodes.For first t u s

    -- what stands behind the test, and behind the first part
    abbrev behind_test : List NodeId
    behind_test = option_part u ++ s ∷ []

    behind_first : (j : NodeId) → IsAmong (option_part t ++ behind_test) j → IsAmong (parts loop) (j, Around)
    behind_first j among = among_around (plain_parts loop) j (among_right (init_parts first) (option_part t ++ behind_test) j among)

    pub for_stands : StandsIf c f t × (StandsIf c f u × StandsHere c f s)
    for_stands = (
      maybe_stands loop t is (λ j q. behind_first j (among_left (option_part t) behind_test j (option_among t j q))),
      (
        maybe_stands loop u is (λ j q. behind_first j (among_right (option_part t) behind_test j (among_left (option_part u) (s ∷ []) j (option_among u j q)))),
        stands_here meaning c f loop s here is (behind_first s (among_right (option_part t) behind_test s (among_right (option_part u) (s ∷ []) s (inl refl)))),
      ),
    )
