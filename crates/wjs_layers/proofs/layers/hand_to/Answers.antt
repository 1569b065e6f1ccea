use Rattle.std.proofs.Common.{get_or}
use Rattle.std.proofs.lemmas.Result.{on_ok_weaker}
use Rattle.wjs_store.proofs.Parents.{slice_get_at}
use Rattle.wjs_layers.specs.Moves.{handed_rows}
use Rattle.wjs_layers.proofs.ListLaws.{kept_at}
use Rattle.wjs_layers.proofs.HandLaws.{rows_id}
use Rattle.wjs_layers.proofs.layers.hand_to.Goals as goal

pub returns : goal.returns
returns g c = record { kept = on_ok_weaker c.hand_reads.result (λ h F k p a. kept_at c.args.layers.now F k c.args.world p (get_or c.args.layers.now c.args.world.place c.index-layers-world.result) c.hand_reads.new.layer (slice_get_at c.args.layers.now c.args.world.place c.index-layers-world.result c.requires) h.0 (handed_rows c.args.rows.now) (rows_id c.args.rows.now) (λ x e q. h.1 x q (a x e))) c.hand_reads.ensures.kept; steps = c.hand_reads.ensures.steps }
