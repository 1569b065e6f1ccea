use Rattle.std.proofs.Common.{[], ◌∷◌, ◌++◌, ap, ◌∙◌}
use Rattle.wjs_model.specs.declared.frame.Activation.{Activation as Frame}
use Rattle.wjs_model.proofs.frame.Frames.add_at.Goals as goal

pub returns-clause-ok : goal.returns-clause-ok
returns-clause-ok c = c.in_ok-push_at.ensures.ok ∙ ap (λ (f : Frame). c.args.self.now ++ record f { phase = c.args.activation.phase } ∷ []) c.in_ok-frame.ensures
