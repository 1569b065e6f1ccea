use Rattle.std.proofs.Common.{[], ◌∷◌, ◌++◌, sym, ap, ◌∙◌}
use Rattle.wjs_model.specs.declared.frame.Activation.{Activation as Frame}
use Rattle.wjs_model.specs.declared.frame.Phase.{Phase}
use Rattle.wjs_model.proofs.frame.Frames.add_waiting.Goals as goal

pub returns-clause-ok : goal.returns-clause-ok
returns-clause-ok c =
    let old = c.args.self.now in
    c.in_ok-push.ensures.ok
    ∙ ap (λ (f : Frame). old ++ f ∷ []) c.in_ok-frame.ensures
    ∙ ap (λ (p : Phase). old ++ record c.args.activation { phase = p } ∷ []) (sym c.requires)
