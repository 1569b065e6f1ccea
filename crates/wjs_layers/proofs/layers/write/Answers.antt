use Rattle.std.proofs.Common.{◌≡◌, rules, ◌<◌, length, sym, ap, subst, true, is_some, IfSome, set, get_or, None}
use Rattle.std.proofs.lemmas.Result.{on_ok_weaker}
use Rattle.wjs_store.specs.State.{put, after_write}
use Rattle.wjs_store.specs.Shown.{content_of}
use Rattle.wjs_store.proofs.Parents.{slice_get_at}
use Rattle.wjs_layers.specs.declared.layer.Layer.{Layer}
use Rattle.wjs_layers.specs.Look.{first_row_of}
use Rattle.wjs_layers.specs.Sparse.{StandFor, full_of}
use Rattle.wjs_layers.proofs.Looks.{below_at}
use Rattle.wjs_layers.proofs.WriteLaws.{write_by, puts_first}
use Rattle.wjs_layers.proofs.layers.write.Goals as goal

pub offset_bounds-layers-world : goal.offset_bounds-layers-world
offset_bounds-layers-world g c = let l : c.args.world.place < length c.args.layers.now = below_at c.args.layers.now c.args.world c.requires.sparse c.requires.there in search rules

pub bounds-layers-world : goal.bounds-layers-world
bounds-layers-world g c = below_at c.args.layers.now c.args.world c.requires.sparse c.requires.there

pub write_first-requires : goal.write_first-requires
write_first-requires g c = record { there = below_at c.args.layers.now c.args.world c.requires.sparse c.requires.there; first = subst (λ o. IfSome o (λ (r : Layer). r.above ≡ None)) (sym (slice_get_at c.args.layers.now c.args.world.place c.index-layers-world.result (below_at c.args.layers.now c.args.world c.requires.sparse c.requires.there))) (sym c.in-None.ensures) }

pub write_marked-requires-clause-parent : goal.write_marked-requires-clause-parent
write_marked-requires-clause-parent g c = subst (λ o. IfSome o (λ (r : Layer). is_some r.above ≡ true)) (sym (slice_get_at c.args.layers.now c.args.world.place c.index-layers-world.result (below_at c.args.layers.now c.args.world c.requires.sparse c.requires.there))) (ap is_some (sym c.in-Some.ensures))

pub returns-in-None-clause-after : goal.returns-in-None-clause-after
returns-in-None-clause-after g c =
    let r = (get_or c.args.layers.now c.args.world.place c.index-layers-world.result) in
    let s = (slice_get_at c.args.layers.now c.args.world.place c.index-layers-world.result (below_at c.args.layers.now c.args.world c.requires.sparse c.requires.there)) in
    on_ok_weaker c.write_first.result (λ p.
    let e = subst (λ o. IfSome o (λ (r : Layer). c.write_first.new.layers ≡ set c.args.layers.now c.args.world.place (record r { rows = put r.rows c.args.slot (first_row_of c.args.content) }))) s p in
    subst (λ ls. StandFor ls (after_write (full_of c.args.layers.now) c.args.world.world c.args.slot (content_of c.args.content))) (sym e)
    (write_by c.args.layers.now c.requires.sparse c.args.world c.requires.there r s c.args.slot (content_of c.args.content) (first_row_of c.args.content)
    (λ x f. puts_first (full_of c.args.layers.now) c.args.world.world r x c.args.slot c.args.content c.requires.sparse.reached f (c.requires.sparse.kept.at c.args.world.world c.args.world.place x r c.requires.there f s) (sym c.in-None.ensures)))) c.write_first.ensures.ok
