use Rattle.std.proofs.Common.{◌≡◌, ap, sym, subst, ◌∙◌, Some}
use Rattle.wjs_base.specs.declared.ids.WorldId.{WorldId}
use Rattle.wjs_layers.specs.Sparse.{full_of, place_of}
use Rattle.wjs_layers.proofs.Places.{slice_read}
use Rattle.wjs_overlay.proofs.StoreLaws.{first_placed}
use Rattle.wjs_overlay.proofs.overlay.Overlay.spot.Goals as goal

pub returns-then-world-first-2-clause-at : goal.returns-then-world-first-2-clause-at
returns-then-world-first-2-clause-at c =
    let layers = c.args.self.now.layers.items in
    let r = c.index.result.now in
    let k = c.args.self.now.kept c.requires.live in
    let s = slice_read layers 0 r c.index.ensures k.some in
    let owner : r.id.owner ≡ c.args.world.owner = sym (c.if-world-first.true ∙ ap (λ (w : WorldId). w.owner) c.id-first.ensures) in
    let serial : r.id.serial ≡ c.args.world.serial = sym (c.if-world-first-2.true ∙ ap (λ (w : WorldId). w.serial) c.id-first.ensures) in
    subst (λ (w : WorldId). place_of (full_of layers) w ≡ Some 0) (λ i. record { owner = owner i; serial = serial i }) (first_placed layers c.args.self.now.places c.args.self.now.owners r k s)
