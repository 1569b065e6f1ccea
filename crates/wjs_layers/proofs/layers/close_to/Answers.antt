use Rattle.std.proofs.Common.{get_or}
use Rattle.std.proofs.lemmas.Result.{on_ok_weaker}
use Rattle.wjs_store.proofs.Parents.{slice_get_at}
use Rattle.wjs_layers.specs.Moves.{closed_all}
use Rattle.wjs_layers.proofs.ListLaws.{kept_at}
use Rattle.wjs_layers.proofs.HandLaws.{closes_id}
use Rattle.wjs_layers.proofs.layers.close_to.Goals as goal

pub returns : goal.returns
returns g c = record { kept = on_ok_weaker c.close_all.result (λ h F k p. kept_at c.args.layers.now F k c.args.world p (get_or c.args.layers.now c.args.world.place c.index-layers-world.result) c.close_all.new.layer (slice_get_at c.args.layers.now c.args.world.place c.index-layers-world.result c.requires) h.0 (closed_all c.args.objects.now) (closes_id c.args.objects.now) (λ x e q. h.1 x q)) c.close_all.ensures.kept; steps = c.close_all.ensures.steps }
