use Rattle.std.proofs.Common.{sym, ap, ◌∙◌, subst}
use Rattle.wjs_store.specs.Shown.{slots_of}
use Rattle.wjs_store.specs.State.{slots_at, list, listed, after_list}
use Rattle.wjs_layers.specs.Sparse.{full_of}
use Rattle.wjs_overlay.specs.Touched.{Covered}
use Rattle.wjs_overlay.proofs.StoreLaws.{store_after, ids_list, answers_store}
use Rattle.wjs_overlay.proofs.Touching.{covered_list}
use Rattle.wjs_overlay.proofs.overlay.Overlay.list_counted.Goals as goal

pub reach-requires : goal.reach-requires
reach-requires g c = (c.args.self.now.covered c.if-self.false).rising

pub invariant_of-self-2 : goal.invariant_of-self-2
invariant_of-self-2 g c =
    let layers = c.args.self.now.layers.items in
    let k = c.args.self.now.covered c.if-self.false in
    record {
      kept = λ e. store_after layers c.list.new.layers.items c.args.self.now.places c.args.self.now.owners _ (c.args.self.now.kept c.if-self.false) c.in_ok-answer.ensures.after (ids_list (full_of layers) c.spot-at.result.world c.args.object) c.in_ok-answer.ensures.len;
      covered = λ e. record {
        rising = c.in_ok-reach.ensures.rising;
        touched = subst (Covered c.reach.new.bounds.items) (sym c.in_ok-answer.ensures.after.full) (covered_list c.args.self.now.bounds.items c.reach.new.bounds.items c.in_ok-reach.ensures.grows (full_of layers) c.spot-at.result.world c.spot-at.result.place c.spot-at.ensures.at c.args.object c.in_ok-reach.ensures.reached k.touched);
      };
    }

pub returns : goal.returns
returns g c = record { answers = answers_store c.args.self.now.spent c.args.self.now.layers.items (full_of c.list.new.layers.items) (list c.args.world c.args.object) (listed (slots_of c.args.object c.in_ok-answer.answer)) c.if-self.false (ap listed (c.in_ok-answer.ensures.names ∙ ap (λ w. slots_at (full_of c.args.self.now.layers.items) w c.args.object) c.spot-at.ensures.world)) (c.in_ok-answer.ensures.after.full ∙ ap (λ w. after_list (full_of c.args.self.now.layers.items) w c.args.object) c.spot-at.ensures.world) }
