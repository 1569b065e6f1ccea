use Rattle.std.proofs.Common.{refl, sym, ap, ◌∙◌, subst}
use Rattle.wjs_store.specs.Shown.{content_of}
use Rattle.wjs_store.specs.State.{write, wrote, after_write}
use Rattle.wjs_layers.specs.Sparse.{full_of}
use Rattle.wjs_overlay.specs.Touched.{Covered}
use Rattle.wjs_overlay.proofs.StoreLaws.{store_after, ids_write, answers_store}
use Rattle.wjs_overlay.proofs.Touching.{covered_write}
use Rattle.wjs_overlay.proofs.overlay.Overlay.write_counted.Goals as goal

pub reach-requires : goal.reach-requires
reach-requires g c = (c.args.self.now.covered c.if-self.false).rising

pub invariant_of-self-2 : goal.invariant_of-self-2
invariant_of-self-2 g c =
    let layers = c.args.self.now.layers.items in
    let k = c.args.self.now.covered c.if-self.false in
    record {
      kept = λ e. store_after layers c.write.new.layers.items c.args.self.now.places c.args.self.now.owners _ (c.args.self.now.kept c.if-self.false) c.in_ok-write.ensures.after (ids_write (full_of layers) c.spot-at.result.world c.args.slot (content_of c.args.content)) c.in_ok-write.ensures.len;
      covered = λ e. record {
        rising = c.in_ok-reach.ensures.rising;
        touched = subst (Covered c.reach.new.bounds.items) (sym c.in_ok-write.ensures.after.full) (covered_write c.args.self.now.bounds.items c.reach.new.bounds.items c.in_ok-reach.ensures.grows (full_of layers) c.spot-at.result.world c.spot-at.result.place c.spot-at.ensures.at c.args.slot (content_of c.args.content) c.in_ok-reach.ensures.reached k.touched);
      };
    }

pub returns-clause-answers : goal.returns-clause-answers
returns-clause-answers g c = answers_store c.args.self.now.spent c.args.self.now.layers.items (full_of c.write.new.layers.items) (write c.args.world c.args.slot (content_of c.args.content)) (wrote) c.if-self.false (refl) (c.in_ok-write.ensures.after.full ∙ ap (λ w. after_write (full_of c.args.self.now.layers.items) w c.args.slot (content_of c.args.content)) c.spot-at.ensures.world)
