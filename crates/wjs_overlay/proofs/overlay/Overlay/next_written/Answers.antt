use Rattle.std.proofs.Common.{◌≡◌, ◌<◌, ◌&&◌, length, sym, ap, ◌∙◌, subst, arith, Bool, IsTrue}
use Rattle.wjs_base.specs.declared.values.Slot.{Slot}
use Rattle.wjs_store.specs.State.{has_world}
use Rattle.wjs_overlay.specs.Check.{IsLeast}
use Rattle.wjs_layers.specs.Cursor.{to_come}
use Rattle.wjs_layers.specs.Marks.{is_written, has_written}
use Rattle.wjs_layers.specs.Sparse.{full_of}
use Rattle.wjs_overlay.specs.Store.{worlds_of}
use Rattle.wjs_layers.proofs.Places.{slice_read}
use Rattle.wjs_layers.proofs.Looks.{below_at}
use Rattle.wjs_overlay.proofs.Written.{written_at}
use Rattle.wjs_overlay.proofs.overlay.Overlay.next_written.Goals as goal

pub spot-at-requires : goal.spot-at-requires
spot-at-requires c = record { live = c.requires.live; there = subst (λ b. IsTrue (has_world (worlds_of b c.args.self.now.layers.items) c.args.world)) c.requires.live c.requires.there }

pub index-requires : goal.index-requires
index-requires c = let l : c.spot-at.result.place < length c.args.self.now.layers.items = (below_at c.args.self.now.layers.items c.spot-at.result (c.args.self.now.kept c.requires.live).sparse c.spot-at.ensures.at) in omega (arith, c.args.self.now.layers.ok)

pub returns : goal.returns
returns c =
    let ls = c.args.self.now.layers.items in
    let r = c.index.result.now in
    let s = slice_read ls c.spot-at.result.place r c.index.ensures (below_at ls c.spot-at.result (c.args.self.now.kept c.requires.live).sparse c.spot-at.ensures.at) in
    let e : (t : Slot) → has_written r.rows t ≡ is_written (worlds_of c.args.self.now.spent ls) c.args.world t = λ t.
    written_at ls (c.args.self.now.kept c.requires.live).sparse c.spot-at.result c.spot-at.ensures.at r s t
    ∙ ap (λ w. is_written (full_of ls) w t) c.spot-at.ensures.world
    ∙ ap (λ b. is_written (worlds_of b ls) c.args.world t) (sym c.requires.live) in
    subst (λ (p : Slot → Bool). IsLeast (λ (t : Slot). p t && to_come c.args.after t) c.next_written.result) (λ i t. e t i) c.next_written.ensures
