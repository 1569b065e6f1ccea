-- The loop `for`-`in`: what is left of it with the visits that a frame of its own holds (ECMA-262, 3rd edition, section 12.6.4).
use Rattle.std.specs.Prelude.{◌≡◌, List, Option, None, Some, Result}
use Rattle.wjs_base.specs.Text.{Table}
use Rattle.wjs_base.specs.declared.ids.NodeId.{NodeId}
use Rattle.wjs_base.specs.declared.values.Slot.{Slot}
use Rattle.wjs_base.specs.declared.values.Value.{Value as Numbered}
use Rattle.wjs_by_content.specs.Tables.{name_in, value_in}
use Rattle.wjs_by_content.specs.Values.{Value}
use Rattle.wjs_store.specs.Meaning.{Meaning}
use Rattle.wjs_meaning.specs.Deeds.{Act, AtStmt, Completion, Env, Eval, Reference, Ret, Throws}
use Rattle.wjs_meaning.specs.Loops.{after_body, for_in_value, visit_body, visit_take, visits_from}
use Rattle.wjs_model.specs.declared.config.Config.{Config}
use Rattle.wjs_model.specs.declared.frame.Activation.{Activation as Frame}
use Rattle.wjs_model.specs.declared.frame.Completion.{Completion as Said}
use Rattle.wjs_model.specs.declared.frame.Held.{Held}
use Rattle.wjs_model.specs.declared.frame.Phase.{Phase}
use Rattle.wjs_model.specs.Contents.{completion_in, holding_in}
use Rattle.wjs_model.specs.Soundness.{IsThere}
use Rattle.wjs_frames.specs.Parts.{node_among}
use Rattle.wjs_loops.specs.declared.for_ins.Taker.{Taker}
use Rattle.wjs_loops.specs.ForIns.{taker_in, taker_of}
use Rattle.wjs_stopping.specs.declared.ends.Broken.{Broken}
use Rattle.wjs_stopping.specs.Evaluating.{Leaves}
use Rattle.wjs_stopping.specs.Waiting.{at_node}
use Rattle.wjs_direct_lines.specs.Deeds.{ComesTo, line_here}

module _ (node : NodeId) (taker : Taker) (body : NodeId) where
  -- what follows the value whose names are visited
  abbrev pub over_left : Table → Env → Value → Act
  over_left t env = for_in_value node.0 (taker_in t taker) body.0 env

  module _ (held : List Held) where
    -- the visits that are held
    abbrev pub visits_left : Table → Env → Act
    visits_left t env = visits_from node.0 (taker_in t taker) body.0 (holding_in t held).visits env

    -- what follows the body of a visit
    abbrev pub visited_then : Table → Env → Completion → Act
    visited_then t env = after_body node.0 env (visits_left t env)

    -- the body of a visit
    abbrev pub body_left : Table → Env → Act
    body_left t env = Eval (AtStmt body.0) env (visited_then t env)

    -- what follows the reference that takes a visit's name
    abbrev pub name_taken : Slot → Table → Env → Reference → Act
    name_taken slot t env = visit_body node.0 body.0 (name_in t slot.name) env (visits_left t env)

    -- a visit that was found present
    abbrev pub visit_left : Slot → Table → Env → Act
    visit_left slot t env = visit_take node.0 (taker_in t taker) body.0 (name_in t slot.name) env (visits_left t env)

-- the visits behind a body, or how the loop ended
abbrev pub ended_or : Table → Act → Option Said → Act
ended_or t again None = again
ended_or t again (Some e) = Ret (completion_in t e)

module _ {S : Type 0} where
  -- the names that the node visits are taken so
  abbrev pub TakesNames : Config S → Frame → NodeId → Taker → Type 0
  TakesNames c f node taker = taker_of (node_among c.units.items f.tree node) ≡ Some taker

module _ {S : Type 0} (meaning : S → Meaning) where
  -- a frame of the node's own, whose visits are there
  abbrev pub HoldsVisits : Config S → Frame → NodeId → Frame → Type 0
  HoldsVisits c f node v = (v ≡ at_node f node v.held) × IsThere meaning c v

  -- the visits of a value are listed, whatever takes their names
  abbrev pub ListsVisits : Numbered → Frame → NodeId → List Held → Config S → Config S → Type 0
  ListsVisits over f node held old new = (taker : Taker) (body : NodeId)
      → Leaves meaning (line_here meaning old f (λ t env. over_left node taker body t env (value_in t over))) (line_here meaning new f (visits_left node taker body held)) old new

  -- that it has none was thrown
  abbrev pub RefusesVisits : Numbered → Numbered → Frame → NodeId → Config S → Config S → Type 0
  RefusesVisits over error f node old new = (taker : Taker) (body : NodeId)
      → Leaves meaning (line_here meaning old f (λ t env. over_left node taker body t env (value_in t over))) (λ t go. go (Throws (value_in t error))) old new

  -- after a visit: those that are held, or the loop ended
  abbrev pub next_left : Config S → Frame → NodeId → Taker → NodeId → List Held → Option Said → Table → (Completion → Act) → Act
  next_left c f node taker body held None t go = line_here meaning c f (visits_left node taker body held) t go
  next_left c f node taker body held (Some e) t go = go (completion_in t e)

  -- the deeds came to this, before the visits that are held or the loop's end
  abbrev pub GoesVisit : (Table → (Completion → Act) → Act) → Frame → NodeId → Taker → NodeId → List Held → Result (Option Said) Broken → List Frame → Option (Frame × Phase) → Config S → Config S → Type 0
  GoesVisit deeds f node taker body held done waits top old new = ComesTo meaning deeds (next_left new f node taker body held) done waits top old new
