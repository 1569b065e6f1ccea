use Rattle.std.proofs.Common.{◌≡◌, ◌+◌, length, sym, ap, ◌∙◌, subst, arith}
use Rattle.std.specs.FinMap as map
use Rattle.wjs_base.specs.declared.ids.WorldId.{WorldId}
use Rattle.wjs_store.specs.State.{next_id, sprout, sprouted, after_sprout}
use Rattle.wjs_layers.specs.Sparse.{full_of}
use Rattle.wjs_overlay.specs.Store.{IsStore}
use Rattle.wjs_overlay.specs.Touched.{Covered}
use Rattle.wjs_overlay.proofs.StoreLaws.{store_sprout, answers_store}
use Rattle.wjs_overlay.proofs.Touching.{covered_sprout}
use Rattle.wjs_overlay.proofs.overlay.Overlay.sprout_counted.Goals as goal

pub returns-clause-answers : goal.returns-clause-answers
returns-clause-answers g c = answers_store c.args.self.now.spent c.args.self.now.layers.items (full_of c.sprout.new.layers.items) (sprout c.args.world c.args.owner c.args.strict) (sprouted (record { owner = c.args.owner; serial = c.count-serial.result })) c.if-self.false (ap sprouted (let e : c.count-serial.result ≡ (next_id (full_of c.args.self.now.layers.items) c.args.owner).serial = c.count-serial.ensures ∙ (c.args.self.now.kept c.if-self.false).owned c.args.owner in λ i. record { owner = c.args.owner; serial = e i })) (c.in_ok-sprout.ensures.after.full ∙ ap (λ w. after_sprout (full_of c.args.self.now.layers.items) w c.args.owner c.args.strict) c.spot-at.ensures.world)

pub invariant_of-self-2 : goal.invariant_of-self-2
invariant_of-self-2 g c =
    let id : WorldId = (record { owner = c.args.owner; serial = c.count-serial.result }) in
    let next : id ≡ next_id (full_of c.args.self.now.layers.items) id.owner = (let e : c.count-serial.result ≡ (next_id (full_of c.args.self.now.layers.items) c.args.owner).serial = c.count-serial.ensures ∙ (c.args.self.now.kept c.if-self.false).owned c.args.owner in λ i. record { owner = c.args.owner; serial = e i }) in
    let place : c.len-place.result ≡ length c.args.self.now.layers.items = omega (arith, c.len-place.ensures, c.args.self.now.layers.ok) in
    let sum : c.in-Some.next ≡ c.count-serial.result + 1 = (let e = c.in-Some.ensures in omega (arith, e)) in
    let k = store_sprout c.args.self.now.layers.items c.sprout.new.layers.items c.args.self.now.places c.args.self.now.owners (c.args.self.now.kept c.if-self.false) c.spot-at.result c.spot-at.ensures.at id c.args.strict c.len-place.result next c.in_ok-sprout.ensures.after place in
    record {
      kept = λ e. subst (λ m. IsStore c.sprout.new.layers.items m c.insert-2.new.self) (sym c.in_ok-insert.ensures.ok) (subst (IsStore c.sprout.new.layers.items (map.insert c.args.self.now.places id c.len-place.result)) (sym (c.in_ok-insert-2.ensures.ok ∙ ap (map.insert c.args.self.now.owners c.args.owner) sum)) k);
      covered = λ e. record {
        rising = (c.args.self.now.covered c.if-self.false).rising;
        touched = subst (Covered c.args.self.now.bounds.items) (sym c.in_ok-sprout.ensures.after.full) (covered_sprout c.args.self.now.bounds.items c.args.self.now.bounds.items (λ i n h. h) (full_of c.args.self.now.layers.items) c.spot-at.result.world c.spot-at.result.place c.spot-at.ensures.at c.args.owner c.args.strict (c.args.self.now.covered c.if-self.false).touched);
      };
    }
