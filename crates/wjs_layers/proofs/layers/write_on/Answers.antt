use Rattle.std.proofs.Common.{◌≡◌, rules, ◌<◌, length, sym, subst, IfSome, set, get_or, None}
use Rattle.std.proofs.lemmas.Result.{on_ok_weaker}
use Rattle.wjs_store.specs.State.{write_all}
use Rattle.wjs_store.specs.Meaning.{entries_of}
use Rattle.wjs_store.proofs.Parents.{slice_get_at}
use Rattle.wjs_layers.specs.declared.layer.Layer.{Layer}
use Rattle.wjs_layers.specs.Several.{first_rows}
use Rattle.wjs_layers.specs.Sparse.{StandFor, full_of}
use Rattle.wjs_layers.proofs.Looks.{below_at}
use Rattle.wjs_layers.proofs.Several.{writes_first}
use Rattle.wjs_layers.proofs.layers.write_on.Goals as goal

pub offset_bounds-layers-world : goal.offset_bounds-layers-world
offset_bounds-layers-world g c = let l : c.args.world.place < length c.args.layers.now = below_at c.args.layers.now c.args.world c.requires.sparse c.requires.there in search rules

pub bounds-layers-world : goal.bounds-layers-world
bounds-layers-world g c = below_at c.args.layers.now c.args.world c.requires.sparse c.requires.there

pub write_first_on-requires : goal.write_first_on-requires
write_first_on-requires g c =
    let layers = c.args.layers.now in
    let below = below_at layers c.args.world c.requires.sparse c.requires.there in
    record { there = below; first = subst (λ o. IfSome o (λ (r : Layer). r.above ≡ None)) (sym (slice_get_at layers c.args.world.place c.index-layers-world.result below)) (sym c.in-None.ensures) }

pub returns-in-None : goal.returns-in-None
returns-in-None g c =
    let layers = c.args.layers.now in
    let at = c.args.world in
    let o = c.args.object in
    let rows = c.args.rows.now in
    let r = get_or layers at.place c.index-layers-world.result in
    let s = slice_get_at layers at.place c.index-layers-world.result (below_at layers at c.requires.sparse c.requires.there) in
    record {
      after = on_ok_weaker c.write_first_on.result (λ p.
          let e = subst (λ o. IfSome o (λ (r : Layer). c.write_first_on.new.layers ≡ set layers at.place (record r { rows = first_rows c.args.object rows r.rows }))) s p in
          subst (λ ls. StandFor ls (write_all at.world (entries_of o rows) (full_of layers))) (sym e) (writes_first rows layers c.requires.sparse at c.requires.there r s (sym c.in-None.ensures) o)) c.write_first_on.ensures.ok;
    }
