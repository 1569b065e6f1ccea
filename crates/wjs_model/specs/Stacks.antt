-- The frames by what is kept of them.
use Rattle.std.specs.Prelude.{List, [], ◌∷◌, ◌++◌, Option, None, Some}
use Rattle.wjs_model.specs.declared.stack.Top.{Top}
use Rattle.wjs_model.specs.declared.stack.Below.{Below}
use Rattle.wjs_model.specs.declared.stack.Stack.{Stack}
use Rattle.wjs_model.specs.declared.frame.Activation.{Activation as Frame}

-- a frame with its phase
abbrev pub top_of : Top → Frame
top_of t = record t.frame { phase = t.phase }

-- frames that wait, and the one on them
abbrev pub topped : List Frame → Option Top → List Frame
topped fs None = fs
topped fs (Some t) = fs ++ top_of t ∷ []

-- those below others
abbrev pub lower : List Below → List Frame
lower [] = []
lower (b ∷ bs) = topped b.list.items (Some b.top) ++ lower bs

abbrev pub all_of : Stack → List Frame
all_of s = lower s.below.items ++ topped s.list.items s.top
