use Rattle.std.proofs.Common.{sym, ap, ◌∙◌, subst, IsTrue}
use Rattle.wjs_store.specs.State.{has_world}
use Rattle.wjs_layers.specs.Sparse.{full_of}
use Rattle.wjs_overlay.specs.Store.{worlds_of}
use Rattle.wjs_overlay.specs.Store.{check_of}
use Rattle.wjs_overlay.proofs.overlay.Overlay.commit_check.Goals as goal

pub spot-at-requires : goal.spot-at-requires
spot-at-requires c = record { live = c.requires.live; there = subst (λ b. IsTrue (has_world (worlds_of b c.args.self.now.layers.items) c.args.world)) c.requires.live c.requires.there }

pub returns : goal.returns
returns c = c.check_in.ensures ∙ ap (λ ls. check_of (full_of ls) c.spot-at.result.world) c.as_slice.ensures.value ∙ ap (check_of (full_of c.args.self.now.layers.items)) c.spot-at.ensures.world ∙ ap (λ b. check_of (worlds_of b c.args.self.now.layers.items) c.args.world) (sym c.requires.live)
