use Rattle.std.proofs.Common.{rules, ◌≡◌, ◌<◌, true, is_some, length, sym, ap, ◌∙◌, subst, set, get_or}
use Rattle.wjs_base.proofs.Options.{some_map}
use Rattle.wjs_store.proofs.Parents.{slice_get_at}
use Rattle.wjs_layers.specs.declared.layer.Spot.{Spot}
use Rattle.wjs_layers.specs.Reset.{after_reset}
use Rattle.wjs_layers.specs.Sparse.{StandFor, full_of}
use Rattle.wjs_layers.proofs.Looks.{below_at, parent_at}
use Rattle.wjs_layers.proofs.Resetting.{reset_by}
use Rattle.wjs_layers.proofs.layers.reset.Goals as goal

pub offset_bounds-layers-world : goal.offset_bounds-layers-world
offset_bounds-layers-world c =
    let l : c.args.world.place < length c.args.layers.now = below_at c.args.layers.now c.args.world c.requires.sparse c.requires.there in
    search rules

pub bounds-layers-world : goal.bounds-layers-world
bounds-layers-world c = below_at c.args.layers.now c.args.world c.requires.sparse c.requires.there

pub returns : goal.returns
returns c =
    let layers = c.args.layers.now in
    let at = c.args.world in
    let r = get_or layers at.place c.index-layers-world.result in
    let s = slice_get_at layers at.place c.index-layers-world.result (below_at layers at c.requires.sparse c.requires.there) in
    let child : is_some r.above ≡ true =
    sym (some_map (λ (a : Spot). a.world) r.above) ∙ ap is_some (sym (parent_at layers c.requires.sparse at c.requires.there r s)) ∙ c.requires.parent in
    record {
      after = subst (λ l. StandFor (set layers at.place l) (after_reset (full_of layers) at.world)) (sym c.clear.ensures)
          (reset_by layers c.requires.sparse at c.requires.there c.requires.leaf r s child);
    }
