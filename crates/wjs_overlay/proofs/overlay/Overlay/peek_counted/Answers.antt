use Rattle.std.proofs.Common.{◌<◌, length, sym, subst, arith, IsTrue}
use Rattle.wjs_store.specs.State.{has_world}
use Rattle.wjs_overlay.specs.Store.{worlds_of}
use Rattle.wjs_layers.proofs.Places.{slice_read}
use Rattle.wjs_layers.proofs.Looks.{below_at}
use Rattle.wjs_overlay.proofs.Peeks.{seen_first, seen_row}
use Rattle.wjs_overlay.proofs.overlay.Overlay.peek_counted.Goals as goal

pub spot-at-requires : goal.spot-at-requires
spot-at-requires g c = record { live = c.requires.live; there = subst (λ b. IsTrue (has_world (worlds_of b c.args.self.now.layers.items) c.args.world)) c.requires.live c.requires.there }

pub index-layer-requires : goal.index-layer-requires
index-layer-requires g c = let l : c.spot-at.result.place < length c.args.self.now.layers.items = below_at c.args.self.now.layers.items c.spot-at.result (c.args.self.now.kept c.requires.live).sparse c.spot-at.ensures.at in omega (arith, c.args.self.now.layers.ok)

pub returns-in-None-clause-answers : goal.returns-in-None-clause-answers
returns-in-None-clause-answers g c =
    let layers = c.args.self.now.layers.items in
    let k = (c.args.self.now.kept c.requires.live).sparse in
    let at = c.spot-at.result in
    let here = c.spot-at.ensures.at in
    let r = c.index-layer.result.now in
    let s = slice_read layers at.place r c.index-layer.ensures (below_at layers at k here) in
    seen_first c.args.self.now.spent c.requires.live layers k at here r s c.args.world c.spot-at.ensures.world c.args.slot c.get_first.result (sym c.in-None.ensures) c.get_first.ensures.content

pub returns-in-Some-clause-answers : goal.returns-in-Some-clause-answers
returns-in-Some-clause-answers g c =
    let layers = c.args.self.now.layers.items in
    let k = (c.args.self.now.kept c.requires.live).sparse in
    let at = c.spot-at.result in
    let here = c.spot-at.ensures.at in
    let r = c.index-layer.result.now in
    let s = slice_read layers at.place r c.index-layer.ensures (below_at layers at k here) in
    seen_row c.args.self.now.spent c.requires.live layers k at here r s c.args.world c.spot-at.ensures.world c.args.slot c.now.result c.now.ensures.now
