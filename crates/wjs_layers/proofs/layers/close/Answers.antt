use Rattle.std.proofs.Common.{rules, ◌<◌, length, sym, subst, set, get_or}
use Rattle.std.proofs.lemmas.Result.{on_ok_weaker}
use Rattle.wjs_store.specs.State.{at_world, close_in}
use Rattle.wjs_layers.specs.Sparse.{AreKept, full_of}
use Rattle.wjs_store.proofs.Parents.{slice_get_at}
use Rattle.wjs_layers.proofs.Looks.{below_at}
use Rattle.wjs_layers.proofs.ListLaws.{close_by}
use Rattle.wjs_layers.proofs.layers.close.Goals as goal

pub offset_bounds-layers-world : goal.offset_bounds-layers-world
offset_bounds-layers-world g c = let l : c.args.world.place < length c.args.layers.now = (below_at c.args.layers.now c.args.world c.requires.sparse c.requires.there) in search rules

pub bounds-layers-world : goal.bounds-layers-world
bounds-layers-world g c = (below_at c.args.layers.now c.args.world c.requires.sparse c.requires.there)

pub returns-clause-kept : goal.returns-clause-kept
returns-clause-kept g c = on_ok_weaker c.close_layer.result (λ p. subst (λ l. AreKept (set c.args.layers.now c.args.world.place l) (at_world c.args.world.world (close_in c.args.object) (full_of c.args.layers.now))) (sym p) (close_by c.args.layers.now c.requires.sparse c.args.world c.requires.there (get_or c.args.layers.now c.args.world.place c.index-layers-world.result) (slice_get_at c.args.layers.now c.args.world.place c.index-layers-world.result (below_at c.args.layers.now c.args.world c.requires.sparse c.requires.there)) c.args.object)) c.close_layer.ensures.ok
