use Rattle.std.proofs.Common.{◌<◌, length, sym, ap, ◌∙◌, arith}
use Rattle.std.specs.Option.{option_map}
use Rattle.wjs_store.specs.State.{parent_of}
use Rattle.wjs_layers.specs.declared.layer.Spot.{Spot}
use Rattle.wjs_layers.specs.Sparse.{full_of}
use Rattle.wjs_overlay.specs.Store.{worlds_of}
use Rattle.wjs_layers.proofs.Places.{slice_read}
use Rattle.wjs_layers.proofs.Looks.{below_at, parent_at}
use Rattle.wjs_overlay.proofs.StoreLaws.{spent_parent}
use Rattle.wjs_overlay.proofs.overlay.OverlayWorldStore.parent.Goals as goal

pub returns-then-self : goal.returns-then-self
returns-then-self c = sym (spent_parent c.args.self.now.spent c.args.self.now.layers.items c.args.world c.if-self.true)

pub index-layer-requires : goal.index-layer-requires
index-layer-requires c = let l : c.spot-at.result.place < length c.args.self.now.layers.items = (below_at c.args.self.now.layers.items c.spot-at.result (c.args.self.now.kept c.if-self.false).sparse c.spot-at.ensures.at) in omega (arith, c.args.self.now.layers.ok)

pub returns-in-None : goal.returns-in-None
returns-in-None c = sym ((parent_at c.args.self.now.layers.items (c.args.self.now.kept c.if-self.false).sparse c.spot-at.result c.spot-at.ensures.at c.index-layer.result.now (slice_read c.args.self.now.layers.items c.spot-at.result.place c.index-layer.result.now c.index-layer.ensures (below_at c.args.self.now.layers.items c.spot-at.result (c.args.self.now.kept c.if-self.false).sparse c.spot-at.ensures.at))) ∙ ap (option_map (λ (a : Spot). a.world)) (sym c.in-None.ensures)) ∙ ap (parent_of (full_of c.args.self.now.layers.items)) c.spot-at.ensures.world ∙ ap (λ b. parent_of (worlds_of b c.args.self.now.layers.items) c.args.world) (sym c.if-self.false)

pub returns-in-Some : goal.returns-in-Some
returns-in-Some c = sym ((parent_at c.args.self.now.layers.items (c.args.self.now.kept c.if-self.false).sparse c.spot-at.result c.spot-at.ensures.at c.index-layer.result.now (slice_read c.args.self.now.layers.items c.spot-at.result.place c.index-layer.result.now c.index-layer.ensures (below_at c.args.self.now.layers.items c.spot-at.result (c.args.self.now.kept c.if-self.false).sparse c.spot-at.ensures.at))) ∙ ap (option_map (λ (a : Spot). a.world)) (sym c.in-Some.ensures)) ∙ ap (parent_of (full_of c.args.self.now.layers.items)) c.spot-at.ensures.world ∙ ap (λ b. parent_of (worlds_of b c.args.self.now.layers.items) c.args.world) (sym c.if-self.false)
