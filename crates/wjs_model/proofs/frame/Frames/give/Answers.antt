use Rattle.std.proofs.Common.{List, is_some, ap, ◌∙◌}
use Rattle.wjs_model.specs.declared.frame.Activation.{Activation as Frame}
use Rattle.wjs_model.specs.Begun.{resumed}
use Rattle.wjs_model.specs.Frames.{last, on_last}
use Rattle.wjs_model.proofs.frame.Frames.give.Goals as goal

pub returns-clause-given : goal.returns-clause-given
returns-clause-given c = c.give_top.ensures.given ∙ ap (on_last (λ (f : Frame). record f { phase = resumed f.phase c.args.completion })) c.self.view_is

pub returns-clause-any : goal.returns-clause-any
returns-clause-any c = c.give_top.ensures.any ∙ ap (λ (l : List Frame). is_some (last l)) c.self.view_is
