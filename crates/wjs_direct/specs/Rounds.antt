-- The iterations of loops: what is left of a loop behind one.
use Rattle.std.specs.Prelude.{◌≡◌, ℕ, List, Option, None, Some, IfSome, Result}
use Rattle.wjs_base.specs.Text.{Table, Grows}
use Rattle.wjs_base.specs.declared.ids.NodeId.{NodeId}
use Rattle.wjs_store.specs.Meaning.{Meaning}
use Rattle.wjs_meaning.specs.Deeds.{Again, Act, Completion, Env, Ret, Sub}
use Rattle.wjs_meaning.specs.Loops.{after_body, do_body, loop_again}
use Rattle.wjs_meaning.specs.Reading.{node_in, number}
use Rattle.wjs_meaning.specs.Statements.{again_of, iteration_from, stmt_at}
use Rattle.wjs_model.specs.declared.config.Config.{Config}
use Rattle.wjs_model.specs.declared.frame.Activation.{Activation as Frame}
use Rattle.wjs_model.specs.declared.frame.Completion.{Completion as Said}
use Rattle.wjs_model.specs.declared.frame.Phase.{Phase}
use Rattle.wjs_model.specs.Contents.{completion_in}
use Rattle.wjs_model.specs.Soundness.{HasCompletion, StandsHere, StandsIf}
use Rattle.wjs_frames.specs.Parts.{env_in, node_among}
use Rattle.wjs_stopping.specs.declared.ends.Broken.{Broken}
use Rattle.wjs_direct_lines.specs.Deeds.{ComesTo, goal_here}
use Rattle.wjs_direct.specs.declared.rounds.LoopParts.{LoopParts}
use Rattle.wjs_direct.specs.declared.do_rounds.DoParts.{DoParts}

-- a later iteration of `while` and `for`
abbrev pub loop_round : NodeId → Option NodeId → Option NodeId → NodeId → Env → Act
loop_round node test update body env = iteration_from node.0 (number test) (number update) body.0 env

-- one of `do`
abbrev pub do_round : NodeId → NodeId → NodeId → Env → Act
do_round node body test env = Sub (stmt_at body.0 env) (do_body node.0 test.0 env)

module _ {S : Type 0} (meaning : S → Meaning) where
  -- the node is a loop whose later iterations are this
  pub record Iterates (c : Config S) (f : Frame) (node : NodeId) (round : Env → Act) : Type 0 where
    pub again : (t : Table) (env : Env) → again_of node.0 (node_in t (node_among c.units.items f.tree node)) env ≡ round env

  -- a `while` or `for` of which they have these parts
  abbrev pub IsLoop : Config S → Frame → NodeId → Option NodeId → Option NodeId → NodeId → Type 0
  IsLoop c f node test update body = Iterates c f node (loop_round node test update body)

  -- a `do`
  abbrev pub IsDo : Config S → Frame → NodeId → NodeId → NodeId → Type 0
  IsDo c f node body test = Iterates c f node (do_round node body test)

  -- after an iteration: the next one is due, or the loop ended
  abbrev pub round_left : Config S → Frame → NodeId → Option Said → Table → (Completion → Act) → Act
  round_left c f node None t go = goal_here meaning c f (Again node.0) t go
  round_left c f node (Some e) t go = go (completion_in t e)

  -- the deeds came to this, before the next iteration or the end
  abbrev pub GoesRound : (Table → (Completion → Act) → Act) → Frame → NodeId → Result (Option Said) Broken → List Frame → Option (Frame × Phase) → Config S → Config S → Type 0
  GoesRound deeds f node done waits top old new = ComesTo meaning deeds (round_left new f node) done waits top old new

  -- the node of a frame is a loop with these parts, which stand there
  pub record HasParts (c : Config S) (f : Frame) (parts : LoopParts) : Type 0 where
    pub is : IsLoop c f f.node parts.test parts.update parts.body
    pub test : StandsIf c f parts.test
    pub update : StandsIf c f parts.update
    pub body : StandsHere c f parts.body

  -- the node of a frame is a `do` with these parts, which stand there
  pub record HasDoParts (c : Config S) (f : Frame) (parts : DoParts) : Type 0 where
    pub is : IsDo c f f.node parts.body parts.test
    pub body : StandsHere c f parts.body
    pub test : StandsHere c f parts.test

  -- a body of the frame's loop that ended so is followed by what comes between iterations
  abbrev pub ends_round : Config S → Frame → Said → Type 0
  ends_round c f end = (t : Table) → Grows c.heap.texts t → (again : Act) → after_body f.node.0 (env_in meaning c t f) again (completion_in t end) ≡ again

-- what a loop ended with is there
abbrev pub HasRound : {S : Type 0} → Config S → Option Said → Type 0
HasRound c ended = IfSome ended (λ e. HasCompletion c e)

-- what follows the update, or the test of a `do`
abbrev pub next_in : Table → ℕ → Env → Option Said → Act
next_in t here env None = loop_again here env
next_in t here env (Some e) = Ret (completion_in t e)
