use Rattle.std.proofs.Common.{◌≡◌, sym, subst, Some}
use Rattle.wjs_base.specs.declared.ids.WorldId.{WorldId}
use Rattle.wjs_layers.specs.Sparse.{full_of, place_of}
use Rattle.wjs_layers.proofs.Places.{slice_read}
use Rattle.wjs_overlay.proofs.StoreLaws.{first_placed}
use Rattle.wjs_overlay.proofs.overlay.Overlay.first_spot.Goals as goal

pub returns-clause-at : goal.returns-clause-at
returns-clause-at c =
    let layers = c.args.self.now.layers.items in
    let k = c.args.self.now.kept c.requires in
    let s = slice_read layers 0 c.index.result.now c.index.ensures k.some in
    subst (λ (w : WorldId). place_of (full_of layers) w ≡ Some 0) (sym c.id.ensures) (first_placed layers c.args.self.now.places c.args.self.now.owners c.index.result.now k s)
