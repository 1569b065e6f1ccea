use Rattle.std.proofs.Common.{◌∙◌}
use Rattle.std.proofs.lemmas.Result.{on_ok_weaker}
use Rattle.wjs_full.proofs.HistoryLists.{put_again}
use Rattle.wjs_full.proofs.history.Histories.put_places.Goals as goal

pub returns : goal.returns
returns c = record { ok = on_ok_weaker c.set.result (λ h. h ∙ put_again c.args.self.now c.take-places.new.self c.args.world c.take-places.result c.extend.new.self c.args.more.now c.take-places.ensures.emptied c.take-places.ensures.places c.in_ok-extend.ensures.ok) c.set.ensures.ok }
