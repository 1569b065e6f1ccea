use Rattle.std.proofs.Common.{◌≡◌, true, false, is_some, sym, ap, ◌∙◌, subst, IsTrue}
use Rattle.wjs_store.specs.Fixed.{fixed}
use Rattle.wjs_store.specs.State.{has_world, parent_of}
use Rattle.wjs_layers.specs.Reset.{has_child, after_reset}
use Rattle.wjs_layers.specs.Sparse.{full_of}
use Rattle.wjs_overlay.specs.Store.{worlds_of}
use Rattle.wjs_overlay.specs.Touched.{Covered}
use Rattle.wjs_overlay.proofs.Renewing.{ids_reset, covered_reset}
use Rattle.wjs_overlay.proofs.StoreLaws.{store_after}
use Rattle.wjs_overlay.proofs.overlay.Overlay.reset.Goals as goal

pub spot-at-requires : goal.spot-at-requires
spot-at-requires c = record {
  live = c.requires.live;
  there = subst (λ b. IsTrue (has_world (worlds_of b c.args.self.now.layers.items) c.args.world)) c.requires.live c.requires.there;
}

pub reset-requires-clause-parent : goal.reset-requires-clause-parent
reset-requires-clause-parent c =
    let layers = c.args.self.now.layers.items in
    subst (λ w. is_some (parent_of (full_of layers) w) ≡ true) (sym c.spot-at.ensures.world)
    (subst (λ b. is_some (parent_of (worlds_of b layers) c.args.world) ≡ true) c.requires.live c.requires.parent)

pub reset-requires-clause-leaf : goal.reset-requires-clause-leaf
reset-requires-clause-leaf c =
    let layers = c.args.self.now.layers.items in
    subst (λ w. has_child (full_of layers) w ≡ false) (sym c.spot-at.ensures.world)
    (subst (λ b. has_child (worlds_of b layers) c.args.world ≡ false) c.requires.live c.requires.leaf)

pub invariant_of-self : goal.invariant_of-self
invariant_of-self c =
    let layers = c.args.self.now.layers.items in
    let k = c.args.self.now.covered c.requires.live in
    record {
      kept = λ e. store_after layers c.reset.new.layers.items c.args.self.now.places c.args.self.now.owners _ (c.args.self.now.kept c.requires.live)
          c.reset.ensures.after (ids_reset (full_of layers) c.spot-at.result.world) c.reset.ensures.len;
      covered = λ e. record {
        rising = k.rising;
        touched = subst (Covered c.args.self.now.bounds.items) (sym c.reset.ensures.after.full)
            (covered_reset c.args.self.now.bounds.items (full_of layers) c.spot-at.result.world k.touched);
      };
    }

pub returns : goal.returns
returns c =
    let layers = c.args.self.now.layers.items in
    ap (λ F. fixed F false) (c.reset.ensures.after.full
    ∙ ap (after_reset (full_of layers)) c.spot-at.ensures.world
    ∙ ap (λ b. after_reset (worlds_of b layers) c.args.world) (sym c.requires.live))
