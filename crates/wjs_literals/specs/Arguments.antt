-- The arguments of calls and `new` (ECMA-262, 3rd edition, sections 11.2.2 to 11.2.4).
use Rattle.std.specs.Prelude.{ℕ, List, [], drop}
use Rattle.wjs_base.specs.declared.ids.NodeId.{NodeId}
use Rattle.wjs_base.specs.Text.{Table}
use Rattle.wjs_store.specs.Meaning.{Meaning}
use Rattle.wjs_tree.specs.declared.node.Node.{Node}
use Rattle.wjs_tree.specs.declared.node.Node.TheVariants as nodes
use Rattle.wjs_by_content.specs.Values.{Value}
use Rattle.wjs_meaning.specs.Deeds.{Env, Act}
use Rattle.wjs_meaning.specs.Expressions.{values_from}
use Rattle.wjs_meaning.specs.Reading.{node_in}
use Rattle.wjs_model.specs.declared.config.Config.{Config}
use Rattle.wjs_model.specs.declared.frame.Activation.{Activation as Frame}
use Rattle.wjs_model.specs.Contents.{holding_in}
use Rattle.wjs_model.specs.Lists.{arguments_of}
use Rattle.wjs_frames.specs.Handling.{Runs}
use Rattle.wjs_frames.specs.Parts.{env_in, node_now}
use Rattle.wjs_effects.specs.Proceeding.{Proceeds}

abbrev pub arguments_in : Node → List NodeId
arguments_in (nodes.Call f arguments) = arguments
arguments_in (nodes.NewWith f arguments) = arguments
arguments_in _ = []

module _ {S : Type 0} (meaning : S → Meaning) where
  -- what is left where a frame holds the callee and the values of the arguments before one: the values from it on, and then the deeds on callee, `this` and all values
  abbrev pub arguments_left : (Value → Value → Env → List Value → Act) → Config S → Frame → ℕ → Table → Act
  arguments_left go c f at t =
      let held = holding_in t f.held in
      let env = env_in meaning c t f in
      values_from (drop at (arguments_of (node_in t (node_now meaning c f)))) held.values env (go held.callee.0 held.callee.1 env)

  -- the values of the arguments from a number up to another were had, and the second frame holds them, too: whatever is done with all values, what is followed of the rest is followed of all
  pub record ArgumentsHeld (old : Config S) (f : Frame) (from : ℕ) (mid : Config S) (g : Frame) (at : ℕ) : Type 0 where
    pub runs : Runs meaning mid g
    pub proceeds : (go : Value → Value → Env → List Value → Act) → Proceeds meaning (arguments_left go old f from) (arguments_left go mid g at) old mid
