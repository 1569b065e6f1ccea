-- The parts of a `for`-`in` stand where its frame is run, whatever the frame holds.
use Rattle.std.proofs.Common.{◌≡◌, Some, inl, refl, sym, subst}
use Rattle.wjs_base.specs.declared.ids.NodeId.{NodeId}
use Rattle.wjs_store.specs.Meaning.{Meaning}
use Rattle.wjs_tree.specs.declared.node.Node.{Node}
use Rattle.wjs_tree.specs.declared.node.Node.TheVariants as nodes
use Rattle.wjs_scope.specs.Nesting.{Around, parts, IsAmong}
use Rattle.wjs_model.specs.declared.config.Config.{Config}
use Rattle.wjs_model.specs.declared.frame.Activation.{Activation as Frame}
use Rattle.wjs_model.specs.Soundness.{IsThere, StandsHere}
use Rattle.wjs_frames.specs.Following.{Later}
use Rattle.wjs_frames.specs.Parts.{node_now}
use Rattle.wjs_frames.proofs.Parting.{stands_here, stands_later}
use Rattle.wjs_heap_steps.proofs.Later.{later_twice}
use Rattle.wjs_loops.specs.declared.for_ins.Taker.TheVariants.{Target}
use Rattle.wjs_loops.specs.ForIns.{taker_of}

target_among : (n : Node) (target : NodeId) → taker_of n ≡ Some (Target target) → IsAmong (parts n) (target, Around)
target_among (nodes.ForIn t e s) target q = let same : t ≡ target = cc in subst (λ (k : NodeId). IsAmong (parts (nodes.ForIn t e s)) (k, Around)) same (inl refl)
target_among (nodes.ForVarIn name e s) target q = absurd (cc)
target_among _ target q = absurd (cc)

module _ {S : Type 0} (meaning : S → Meaning) (c : Config S) (f : Frame) where
  -- its target
  pub target_stands : (target : NodeId) → IsThere meaning c f → taker_of (node_now meaning c f) ≡ Some (Target target) → StandsHere c f target
  target_stands target here q = stands_here meaning c f (node_now meaning c f) target here refl (target_among (node_now meaning c f) target q)

  -- what stands there, where the frame holds something else
  pub stands_held : (g : Frame) (s : NodeId) → g ≡ record f { held = g.held } → StandsHere c f s → StandsHere c g s
  stands_held g s e h = let P : Frame → Type 0 = λ x. StandsHere c x s in subst P (sym e) h

  -- and after two deeds
  pub stands_twice : (mid new : Config S) (s : NodeId) → Later meaning c mid → Later meaning mid new → StandsHere c f s → StandsHere new f s
  stands_twice mid new s first second h = stands_later meaning c f new s (later_twice meaning c mid new first second) h
