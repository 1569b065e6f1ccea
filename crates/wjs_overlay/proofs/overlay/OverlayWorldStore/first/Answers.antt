use Rattle.std.proofs.Common.{ap, sym, ◌∙◌, Some}
use Rattle.wjs_store.specs.Shown.{first_of}
use Rattle.wjs_overlay.specs.Store.{worlds_of}
use Rattle.wjs_layers.proofs.Places.{slice_read}
use Rattle.wjs_overlay.proofs.StoreLaws.{first_at}
use Rattle.wjs_overlay.proofs.overlay.OverlayWorldStore.first.Goals as goal

pub returns : goal.returns
returns c = ap (λ b. first_of (worlds_of b c.args.self.now.layers.items)) c.if-self.false ∙ first_at c.args.self.now.layers.items c.args.self.now.places c.args.self.now.owners c.index.result.now (c.args.self.now.kept c.if-self.false) (slice_read c.args.self.now.layers.items 0 c.index.result.now c.index.ensures (c.args.self.now.kept c.if-self.false).some) ∙ ap (λ i. Some i) (sym c.id.ensures)
