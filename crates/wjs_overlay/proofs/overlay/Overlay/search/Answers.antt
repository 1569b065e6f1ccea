use Rattle.std.proofs.Common.{◌≡◌, sym, ap, ◌∙◌, subst, Some, is_some, slice_get}
use Rattle.wjs_layers.specs.Sparse.{full_of, place_of}
use Rattle.wjs_layers.proofs.Places.{place_find}
use Rattle.wjs_overlay.proofs.StoreLaws.{is_some_of, layer_placed}
use Rattle.wjs_overlay.proofs.overlay.Overlay.search.Goals as goal

pub returns-then-stands_at : goal.returns-then-stands_at
returns-then-stands_at c =
    let s = c.args.self.now in
    let w = c.stands_at.ensures c.if-stands_at.true in
    subst (λ v. place_of (full_of s.layers.items) v ≡ Some c.likely_place-place.result) w.2
    (layer_placed s.layers.items s.places s.owners c.likely_place-place.result w.0 (s.kept c.requires.live) (ap (λ ls. slice_get ls c.likely_place-place.result) (sym c.as_slice.ensures.value) ∙ w.1))

pub unwrap-requires : goal.unwrap-requires
unwrap-requires c = is_some_of c.get.result (ap is_some (c.get.ensures ∙ (c.args.self.now.kept c.requires.live).placed c.args.world) ∙ place_find (full_of c.args.self.now.layers.items) c.args.world ∙ c.requires.there)

pub returns : goal.returns
returns c = sym (c.get.ensures ∙ (c.args.self.now.kept c.requires.live).placed c.args.world) ∙ c.unwrap.ensures
