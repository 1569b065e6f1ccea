use Rattle.std.proofs.Common.{◌<◌, length, is_some, sym, ap, ◌∙◌, arith}
use Rattle.wjs_store.specs.Shown.{content_of}
use Rattle.wjs_store.specs.State.{content_at, read, found, after_read}
use Rattle.wjs_layers.specs.Sparse.{full_of, depth_of}
use Rattle.wjs_overlay.specs.Store.{worlds_of}
use Rattle.wjs_layers.proofs.Places.{slice_read}
use Rattle.wjs_layers.proofs.Looks.{content_kept, below_at}
use Rattle.wjs_overlay.proofs.Passing.{child_place}
use Rattle.wjs_layers.proofs.ReadLaws.{read_first}
use Rattle.wjs_overlay.proofs.StoreLaws.{answers_same}
use Rattle.wjs_overlay.proofs.overlay.Overlay.read_counted.Goals as goal

pub index-layer-requires : goal.index-layer-requires
index-layer-requires g c = let l : c.spot-at.result.place < length c.args.self.now.layers.items = (below_at c.args.self.now.layers.items c.spot-at.result (c.args.self.now.kept c.if-self.false).sparse c.spot-at.ensures.at) in omega (arith, c.args.self.now.layers.ok)

pub returns-in-None-clause-answers : goal.returns-in-None-clause-answers
returns-in-None-clause-answers g c =
    let k = (c.args.self.now.kept c.if-self.false).sparse in
    let r = c.index-layer.result.now in
    let s = slice_read c.args.self.now.layers.items c.spot-at.result.place r c.index-layer.ensures (below_at c.args.self.now.layers.items c.spot-at.result (c.args.self.now.kept c.if-self.false).sparse c.spot-at.ensures.at) in
    let w = c.spot-at.ensures.world in
    answers_same c.args.self.now.spent c.args.self.now.layers.items (read c.args.world c.args.slot) (found (content_of c.get_first.result)) c.if-self.false
    (ap found (c.get_first.ensures.content ∙ content_kept c.args.self.now.layers.items k c.spot-at.result c.spot-at.ensures.at r s c.args.slot (sym c.in-None.ensures) ∙ ap (λ w. content_at (full_of c.args.self.now.layers.items) w c.args.slot) w))
    ((read_first c.args.self.now.layers.items k c.spot-at.result c.spot-at.ensures.at r s c.args.slot (sym c.in-None.ensures)).full ∙ ap (λ w. after_read (full_of c.args.self.now.layers.items) w c.args.slot) w)

pub read_marked-requires-clause-child : goal.read_marked-requires-clause-child
read_marked-requires-clause-child g c =
    let layers = c.args.self.now.layers.items in
    let k = (c.args.self.now.kept c.if-self.false).sparse in
    let r = c.index-layer.result.now in
    let s = slice_read layers c.spot-at.result.place r c.index-layer.ensures (below_at layers c.spot-at.result k c.spot-at.ensures.at) in
    child_place layers k c.spot-at.result c.spot-at.ensures.at r s (ap is_some (sym c.in-Some.ensures))

pub returns-in-Some-clause-answers : goal.returns-in-Some-clause-answers
returns-in-Some-clause-answers g c = rw (← c.spot-at.ensures.world) c.read_marked.ensures.answers

pub returns-in-Some-clause-steps : goal.returns-in-Some-clause-steps
returns-in-Some-clause-steps g c =
    let d = ap (λ b. depth_of (worlds_of b c.args.self.now.layers.items) c.args.world) c.if-self.false in
    let e = ap (depth_of (full_of c.args.self.now.layers.items)) c.spot-at.ensures.world in
    omega (arith, d, e, c.read_marked.ensures.steps)
