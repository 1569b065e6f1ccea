use Rattle.std.proofs.Common.{List, [], ◌∷◌, ◌++◌, ap, ◌∙◌}
use Rattle.std.proofs.lemmas.Result.{on_ok_weaker, on_err_weaker}
use Rattle.wjs_model.specs.declared.frame.Activation.{Activation as Frame}
use Rattle.wjs_model.proofs.frame.Frames.push.Goals as goal

pub returns-clause-ok : goal.returns-clause-ok
returns-clause-ok c = on_ok_weaker c.push_waiting.result (λ e. e ∙ ap (λ (l : List Frame). l ++ c.args.frame ∷ []) c.self.view_is) c.push_waiting.ensures.ok

pub returns-clause-err : goal.returns-clause-err
returns-clause-err c = on_err_weaker c.push_waiting.result (λ e. e ∙ c.self.view_is) c.push_waiting.ensures.err
