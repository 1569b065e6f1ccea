-- A frame that waits for another above it, which is run at a node around the same.
use Rattle.std.proofs.Common.{◌≡◌, ℕ, [], Some, sym, subst}
use Rattle.std.specs.Prelude.{Result, OnOk, slice_get}
use Rattle.wjs_base.specs.declared.ids.OutOfMemory.{OutOfMemory}
use Rattle.wjs_base.specs.declared.ids.NodeId.{NodeId}
use Rattle.wjs_store.specs.Meaning.{Meaning}
use Rattle.wjs_meaning.specs.Deeds.{Goal, Eval, Sub}
use Rattle.wjs_meaning.specs.Reading.{node_in}
use Rattle.wjs_model.specs.declared.config.Config.{Config}
use Rattle.wjs_model.specs.declared.frame.Activation.{Activation as Frame}
use Rattle.wjs_model.specs.declared.point.Point.{Point}
use Rattle.wjs_model.specs.Contents.{holding_in}
use Rattle.wjs_model.specs.Soundness.{IsThere, StandsHere}
use Rattle.wjs_model.specs.Waiting.{after}
use Rattle.wjs_frames.specs.Following.{Follows}
use Rattle.wjs_frames.specs.Nesting.{Nests}
use Rattle.wjs_frames.specs.Parts.{env_in, node_among, then_at}
use Rattle.wjs_step_common.specs.Lists.{statements_in}
use Rattle.wjs_effects.proofs.Parted.{statement_stands}

module _ {S : Type 0} (meaning : S → Meaning) (f above : Frame) (node : NodeId) (is : above ≡ record f { node = node; held = [] }) where
  -- it is there
  pub above_there : (c : Config S) → IsThere meaning c f → StandsHere c f node → IsThere meaning c above
  above_there c here s =
      let P : Frame → Type 0 = λ x. IsThere meaning c x in
      subst P (sym is) (record { scope = here.scope; this = here.this; world = here.world; held = tt; stands = record { node = s; shown = here.stands.shown } })

  -- what stands where the frame is run stands there
  pub above_stands : (c : Config S) (j : NodeId) → StandsHere c f j → StandsHere c above j
  above_stands c j h = subst (λ (x : Frame). StandsHere c x j) (sym is) h

  -- a goal is entered from there
  pub above_follows : (point behind : Point) (goal : Goal) (old mid new : Config S) (r : Result (Unit {0}) OutOfMemory) → mid ≡ record old { frames = mid.frames }
      → Nests meaning (λ t. then_at meaning old f point t (env_in meaning old t f)) old mid
      → (let t = new.heap.texts in OnOk r (Follows meaning (Eval goal (env_in meaning mid t above) (then_at meaning mid above behind t (env_in meaning mid t above))) mid new))
      → (let t = new.heap.texts in let env = env_in meaning old t f in OnOk r (Follows meaning (Sub (Eval goal env (after behind node.0 (node_in t (node_among old.units.items f.tree node)) (holding_in t []) env)) (then_at meaning old f point t env)) old new))
  above_follows point behind goal old mid new r same nests h =
      let t = new.heap.texts in
      let env = env_in meaning old t f in
      let F : Config S → Type 0 = λ c. OnOk r (Follows meaning (Eval goal (env_in meaning c t above) (then_at meaning c above behind t (env_in meaning c t above))) mid new) in
      let G : Frame → Type 0 = λ x. OnOk r (Follows meaning (Eval goal (env_in meaning old t x) (then_at meaning old x behind t (env_in meaning old t x))) mid new) in
      nests.by (Eval goal env (after behind node.0 (node_in t (node_among old.units.items f.tree node)) (holding_in t []) env)) new r (subst G is (subst F same h))

-- a statement of a block that stands where the frame is run
pub inner_stands : {S : Type 0} (meaning : S → Meaning) (c : Config S) (f : Frame) (block : NodeId) (at : ℕ) (s : NodeId) → IsThere meaning c f → StandsHere c f block
    → slice_get (statements_in (node_among c.units.items f.tree block)) at ≡ Some s → StandsHere c f s
inner_stands meaning c f block at s here h e =
    statement_stands meaning c (record f { node = block })
    (record { scope = here.scope; this = here.this; world = here.world; held = here.held; stands = record { node = h; shown = here.stands.shown } }) at s e
