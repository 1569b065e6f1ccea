use Rattle.std.proofs.Common.{ap, ◌∙◌, subst}
use Rattle.wjs_store.specs.State.{at_world, close_in}
use Rattle.wjs_layers.specs.Sparse.{AreKept, full_of, after_reads}
use Rattle.wjs_layers.proofs.Looks.{found_at}
use Rattle.wjs_layers.proofs.ListLaws.{list_by}
use Rattle.wjs_layers.proofs.layers.list.Goals as goal

pub returns-clause-after : goal.returns-clause-after
returns-clause-after g c =
    let x = found_at (full_of c.args.layers.now) c.args.world.world c.args.world.place c.requires.there in
    let slots = c.as_slice.ensures.value ∙ c.in_ok-slots.ensures.slots in
    let mid = c.in_ok-read_all.ensures.after.full ∙ ap (λ ss. after_reads c.args.world.world ss (full_of c.args.layers.now)) slots in
    list_by c.close.new.layers (full_of c.args.layers.now) c.args.world.world c.args.object x.0 c.requires.sparse.reached x.1
    (subst (λ G. AreKept c.close.new.layers (at_world c.args.world.world (close_in c.args.object) G)) mid c.in_ok-close.ensures.kept)
