use Rattle.std.proofs.Common.{◌<◌, length, sym, subst, arith}
use Rattle.wjs_layers.specs.Sparse.{full_of}
use Rattle.wjs_overlay.specs.Store.{worlds_of}
use Rattle.wjs_layers.proofs.Places.{slice_read}
use Rattle.wjs_layers.proofs.Looks.{below_at}
use Rattle.wjs_store.specs.Shown.{Counts}
use Rattle.wjs_overlay.proofs.MarkLaws.{counts_at}
use Rattle.wjs_overlay.proofs.StoreLaws.{spent_counts}
use Rattle.wjs_overlay.proofs.overlay.OverlayWorldStore.counts.Goals as goal

pub returns-then-self : goal.returns-then-self
returns-then-self c = spent_counts c.args.self.now.spent c.args.self.now.layers.items c.args.world c.if-self.true c.requires

pub index-requires : goal.index-requires
index-requires c = let l : c.spot-at.result.place < length c.args.self.now.layers.items = (below_at c.args.self.now.layers.items c.spot-at.result (c.args.self.now.kept c.if-self.false).sparse c.spot-at.ensures.at) in omega (arith, c.args.self.now.layers.ok)

pub returns : goal.returns
returns c =
    let r = c.index.result.now in
    let s = slice_read c.args.self.now.layers.items c.spot-at.result.place r c.index.ensures (below_at c.args.self.now.layers.items c.spot-at.result (c.args.self.now.kept c.if-self.false).sparse c.spot-at.ensures.at) in
    let k = counts_at c.args.self.now.layers.items (c.args.self.now.kept c.if-self.false).sparse c.spot-at.result c.spot-at.ensures.at r s c.count_marks.result c.count_marks.ensures.reads c.count_marks.ensures.writes c.count_marks.ensures.closed in
    subst (λ b. Counts (worlds_of b c.args.self.now.layers.items) c.args.world c.count_marks.result) (sym c.if-self.false) (subst (λ w. Counts (full_of c.args.self.now.layers.items) w c.count_marks.result) c.spot-at.ensures.world k)
