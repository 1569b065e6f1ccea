use Rattle.std.proofs.Common.{List, ap, ◌∙◌}
use Rattle.std.specs.Prelude.{option_map}
use Rattle.wjs_model.specs.declared.frame.Activation.{Activation as Frame}
use Rattle.wjs_model.specs.Begun.{is_due}
use Rattle.wjs_model.specs.Frames.{last}
use Rattle.wjs_model.proofs.frame.Frames.is_due.Goals as goal

pub returns : goal.returns
returns c = c.is_due_top.ensures ∙ ap (λ (l : List Frame). is_due (option_map (λ (f : Frame). f.phase) (last l))) c.self.view_is
