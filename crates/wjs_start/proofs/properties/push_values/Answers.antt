use Rattle.std.proofs.lemmas.Result.{on_ok_weaker}
use Rattle.wjs_start.proofs.Appending.{four}
use Rattle.wjs_start.proofs.properties.push_values.Goals as goal

pub returns : goal.returns
returns c = on_ok_weaker c.push_kept-3.result (λ last. four _ _ _ _ _ _ _ _ _ c.in_ok-push_kept.ensures c.in_ok-push_kept-2.ensures c.in_ok-push_hidden.ensures last) c.push_kept-3.ensures
