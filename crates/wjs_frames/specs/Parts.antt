-- The parts of a node that are entered, and where.
use Rattle.std.specs.Prelude.{ℕ, List, [], slice_get, unwrap_or}
use Rattle.std.specs.Option.{option_map}
use Rattle.wjs_base.specs.Text.{Table}
use Rattle.wjs_base.specs.declared.ids.NodeId.{NodeId}
use Rattle.wjs_tree.specs.declared.node.Node.{Node as NumberedNode}
use Rattle.wjs_tree.specs.declared.node.Node.TheVariants as nodes
use Rattle.wjs_store.specs.Meaning.{Meaning}
use Rattle.wjs_meaning.specs.Reading.{node_in}
use Rattle.wjs_meaning.specs.Deeds.{Env, Goal, AtExpr, AtTarget, AtStmt, Again, Completion as Said, Act}
use Rattle.wjs_model.specs.declared.point.Point.{Point}
use Rattle.wjs_model.specs.declared.point.Start.{Start}
use Rattle.wjs_model.specs.declared.point.Start.TheVariants as starts
use Rattle.wjs_model.specs.declared.frame.Phase.TheVariants as phases
use Rattle.wjs_model.specs.declared.frame.Activation.{Activation as NumberedFrame}
use Rattle.wjs_model.specs.declared.config.Config.{Config}
use Rattle.wjs_model.specs.declared.config.State.{State}
use Rattle.wjs_model.specs.declared.config.State.TheVariants as states
use Rattle.wjs_model.specs.declared.frame.Completion.{Completion}
use Rattle.wjs_model.specs.declared.frame.Completion.TheVariants as completions
use Rattle.wjs_model.specs.Contents.{env_of, frame_in, holding_in}
use Rattle.wjs_model.specs.declared.loaded.LoadedProgram.{LoadedProgram as Program}
use Rattle.wjs_model.specs.Units as program
use Rattle.wjs_model.specs.Configurations.{run_in}
use Rattle.wjs_model.specs.Waiting.{after}
use Rattle.wjs_model.specs.Rest.{begin_at}
use Rattle.wjs_frames.specs.declared.part.Part.{Part}
use Rattle.wjs_frames.specs.declared.part.Part.TheVariants as part

-- the goal that a part is
abbrev pub goal_of : Part → Goal
goal_of (part.Expr e) = AtExpr e.0
goal_of (part.Target e) = AtTarget e.0
goal_of (part.Stmt s) = AtStmt s.0
goal_of (part.Again s) = Again s.0

-- what its frame begins with, and at which node
abbrev pub start_of : Part → Start
start_of (part.Expr e) = starts.Expr
start_of (part.Target e) = starts.Target
start_of (part.Stmt s) = starts.Stmt
start_of (part.Again s) = starts.Again

abbrev pub node_of : Part → NodeId
node_of (part.Expr e) = e
node_of (part.Target e) = e
node_of (part.Stmt s) = s
node_of (part.Again s) = s

-- the frame of a part, with its step due
abbrev pub due_frame : NumberedFrame → Part → NumberedFrame
due_frame at p = record { tree = at.tree; node = node_of p; phase = phases.Due (start_of p); scope = at.scope; this = at.this; world = at.world; held = [] }

-- how a run ends where no frame is left
abbrev pub ended : Completion → State
ended (completions.Throws v) = states.Threw v
ended _ = states.Done

-- the node of a tree among the units, and an empty statement where there is none
abbrev pub node_among : List Program → ℕ → NodeId → NumberedNode
node_among units tree id = unwrap_or (option_map (λ (u : Program). program.node_of u id) (slice_get units tree)) nodes.Empty

module _ {S : Type 0} (meaning : S → Meaning) (c : Config S) where
  -- the node of a frame
  abbrev pub node_now : NumberedFrame → NumberedNode
  node_now f = node_among c.units.items f.tree f.node

  -- where a frame is run, under a table
  abbrev pub env_in : Table → NumberedFrame → Env
  env_in t f = env_of (run_in meaning t c) (frame_in t f)

  -- what a frame does at a point with the completion that it waited for
  abbrev pub then_at : NumberedFrame → Point → Table → Env → Said → Act
  then_at f point t env = after point f.node.0 (node_in t (node_now f)) (holding_in t f.held) env

  -- what a frame begins with
  abbrev pub begins_at : NumberedFrame → Start → Table → Env → Act
  begins_at f start t env = begin_at start f.node.0 (node_in t (node_now f)) (holding_in t f.held) env
