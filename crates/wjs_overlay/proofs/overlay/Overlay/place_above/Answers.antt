use Rattle.std.proofs.Common.{◌≡◌, ◌<◌, ◌∙◌, Some, length, sym, ap, subst, arith}
use Rattle.std.specs.Option.{option_map}
use Rattle.std.proofs.lemmas.Option.{same_Some}
use Rattle.wjs_base.specs.declared.ids.WorldId.{WorldId}
use Rattle.wjs_base.proofs.Options.{no_none}
use Rattle.wjs_layers.specs.declared.layer.Spot.{Spot}
use Rattle.wjs_layers.specs.Sparse.{full_of, place_of}
use Rattle.wjs_layers.proofs.Places.{slice_read}
use Rattle.wjs_layers.proofs.Looks.{above_at, below_at}
use Rattle.wjs_layers.proofs.Looks.{parent_at}
use Rattle.wjs_overlay.proofs.overlay.Overlay.place_above.Goals as goal

pub index-layer-requires : goal.index-layer-requires
index-layer-requires c = let l : c.args.at.place < length c.args.self.now.layers.items = below_at c.args.self.now.layers.items c.args.at (c.args.self.now.kept c.requires.live).sparse c.requires.there in omega (arith, c.args.self.now.layers.ok)

pub returns-in-None : goal.returns-in-None
returns-in-None c = λ p e.
    let layers = c.args.self.now.layers.items in
    let k = (c.args.self.now.kept c.requires.live).sparse in
    let r = c.index-layer.result.now in
    let s = slice_read layers c.args.at.place r c.index-layer.ensures (below_at layers c.args.at k c.requires.there) in
    no_none p (ap (option_map (λ (a : Spot). a.world)) c.in-None.ensures ∙ sym (parent_at layers k c.args.at c.requires.there r s) ∙ e)

pub returns-in-Some : goal.returns-in-Some
returns-in-Some c = λ p e.
    let layers = c.args.self.now.layers.items in
    let k = (c.args.self.now.kept c.requires.live).sparse in
    let r = c.index-layer.result.now in
    let s = slice_read layers c.args.at.place r c.index-layer.ensures (below_at layers c.args.at k c.requires.there) in
    let a = c.in-Some.above in
    let is : a.world ≡ p = same_Some a.world p (ap (option_map (λ (b : Spot). b.world)) c.in-Some.ensures ∙ sym (parent_at layers k c.args.at c.requires.there r s) ∙ e) in
    let up = above_at layers k c.args.at c.requires.there r s a (sym c.in-Some.ensures) in
    (subst (λ (w : WorldId). place_of (full_of layers) w ≡ Some a.place) is up.0, up.1)
