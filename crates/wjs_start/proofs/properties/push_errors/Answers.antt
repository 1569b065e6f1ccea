use Rattle.std.proofs.lemmas.Result.{on_ok_weaker}
use Rattle.wjs_start.proofs.Appending.{four}
use Rattle.wjs_start.proofs.properties.push_errors.Goals as goal

pub returns : goal.returns
returns c = on_ok_weaker c.push_error-4.result (λ last. four _ _ _ _ _ _ _ _ _ c.in_ok-push_error.ensures c.in_ok-push_error-2.ensures c.in_ok-push_error-3.ensures last) c.push_error-4.ensures
