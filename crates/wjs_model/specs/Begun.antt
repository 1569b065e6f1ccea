-- Frames that wait and that begin, and what they go on with.
use Rattle.std.specs.Prelude.{[], Bool, true, false, Option, Some}
use Rattle.wjs_base.specs.declared.ids.NodeId.{NodeId}
use Rattle.wjs_model.specs.declared.point.Start.{Start}
use Rattle.wjs_model.specs.declared.frame.Kept.{Kept}
use Rattle.wjs_model.specs.declared.frame.Activation.{Activation as Frame}
use Rattle.wjs_model.specs.declared.frame.Completion.{Completion}
use Rattle.wjs_model.specs.declared.frame.Phase.{Phase}
use Rattle.wjs_model.specs.declared.frame.Phase.TheVariants as phases

-- what is kept of a frame: it waits at its point
abbrev pub waiting : Kept → Frame
waiting k = record { tree = k.tree; node = k.node; phase = phases.Waiting k.point; scope = k.scope; this = k.this; world = k.world; held = k.held }

-- a frame with its phase
abbrev pub with_phase : Frame × Phase → Frame
with_phase top = record top.0 { phase = top.1 }

-- the frame that begins at a node around the same as another, with a step due
abbrev pub begun_at : Frame → Start → NodeId → Frame
begun_at at start node = record { tree = at.tree; node = node; phase = phases.Due start; scope = at.scope; this = at.this; world = at.world; held = [] }

-- the frame above has ended with a completion: what waited for it goes on with it, and all else as it was to
abbrev pub resumed : Phase → Completion → Phase
resumed (phases.Waiting point) c = phases.Given point c
resumed phase c = phase

-- whether a step is due
abbrev pub is_due : Option Phase → Bool
is_due (Some (phases.Due start)) = true
is_due (Some (phases.Entering point o)) = true
is_due _ = false
