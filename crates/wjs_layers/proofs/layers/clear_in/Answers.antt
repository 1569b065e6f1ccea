use Rattle.std.proofs.Common.{refl, sym, subst, set, get_or}
use Rattle.wjs_store.specs.State.{at_world, clear_marks}
use Rattle.wjs_store.proofs.Parents.{slice_get_at}
use Rattle.wjs_layers.specs.Moves.{cleared}
use Rattle.wjs_layers.specs.Sparse.{AreKept}
use Rattle.wjs_layers.proofs.ListLaws.{kept_at}
use Rattle.wjs_layers.proofs.HandLaws.{keeps_cleared}
use Rattle.wjs_layers.proofs.layers.clear_in.Goals as goal

pub returns : goal.returns
returns c = record { kept = λ F k p f. subst (λ l. AreKept (set c.args.layers.now c.args.world.place l) (at_world c.args.world.world clear_marks F)) (sym c.clear.ensures) (kept_at c.args.layers.now F k c.args.world p (get_or c.args.layers.now c.args.world.place c.index-layers-world.result) (cleared (get_or c.args.layers.now c.args.world.place c.index-layers-world.result)) (slice_get_at c.args.layers.now c.args.world.place c.index-layers-world.result c.requires) refl clear_marks (λ x. refl) (λ x e q. keeps_cleared (get_or c.args.layers.now c.args.world.place c.index-layers-world.result) x q (f x e))) }
