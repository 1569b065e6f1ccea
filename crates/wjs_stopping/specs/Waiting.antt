-- The frames of nodes that stop, or wait for what stopped inside them.
use Rattle.std.specs.Prelude.{◌≡◌, List, [], ◌∷◌, Option, Some}
use Rattle.wjs_base.specs.declared.ids.NodeId.{NodeId}
use Rattle.wjs_model.specs.declared.frame.Activation.{Activation as Frame}
use Rattle.wjs_model.specs.declared.frame.Held.{Held}
use Rattle.wjs_model.specs.declared.frame.Phase.{Phase}
use Rattle.wjs_model.specs.declared.frame.Phase.TheVariants as phases
use Rattle.wjs_model.specs.declared.point.Point.{Point}
use Rattle.wjs_stopping.specs.declared.ends.Broken.{Broken}
use Rattle.wjs_stopping.specs.declared.ends.Broken.TheVariants as ends

-- the frame of a node that is run where another frame is, and what it holds
abbrev pub at_node : Frame → NodeId → List Held → Frame
at_node f node held = record f { node = node; held = held }

-- where it waits
abbrev pub waiting_at : Frame → Point → Frame
waiting_at f point = record f { phase = phases.Waiting point }

-- it stopped, and this frame alone is left; or memory ran out
abbrev pub StopsAt : Frame → Phase → Broken → List Frame → Option (Frame × Phase) → Type 0
StopsAt f phase ends.Stopped waits top = (waits ≡ []) × (top ≡ Some (f, phase))
StopsAt f phase (ends.Throws v) waits top = ⊥
StopsAt f phase ends.OutOfMemory waits top = Unit {0}

-- where it stopped inside, the frame waits below what is left, or memory ran out; what threw is handed on
abbrev pub WaitsAt : Frame → Point → Broken → List Frame → Option (Frame × Phase) → Broken → List Frame → Option (Frame × Phase) → Type 0
WaitsAt f point ends.Stopped waits top ends.Stopped waits' top' = (waits' ≡ waiting_at f point ∷ waits) × (top' ≡ top)
WaitsAt f point ends.Stopped waits top (ends.Throws v) waits' top' = ⊥
WaitsAt f point ends.Stopped waits top ends.OutOfMemory waits' top' = Unit {0}
WaitsAt f point (ends.Throws v) waits top end waits' top' = (end ≡ ends.Throws v) × ((waits' ≡ waits) × (top' ≡ top))
WaitsAt f point ends.OutOfMemory waits top end waits' top' = end ≡ ends.OutOfMemory
