use Rattle.std.proofs.Common.{◌≡◌, ◌∙◌, sym, ap, subst, Some, IfSome}
use Rattle.wjs_base.proofs.Lists.{get_there}
use Rattle.wjs_store.specs.Shown.{content_of}
use Rattle.wjs_store.specs.State.{read, found}
use Rattle.wjs_layers.specs.declared.layer.Layer.{Layer}
use Rattle.wjs_layers.specs.Look.{IsUntouched}
use Rattle.wjs_layers.specs.Sparse.{full_of, place_of}
use Rattle.wjs_overlay.specs.Touched.{Covered}
use Rattle.wjs_layers.proofs.Looks.{below_at, world_at, holds}
use Rattle.wjs_overlay.proofs.Passing.{untouched_past}
use Rattle.wjs_overlay.proofs.StoreLaws.{store_after, ids_read, answers_store}
use Rattle.wjs_overlay.proofs.Touching.{covered_read, past_content, depth_first}
use Rattle.wjs_overlay.proofs.overlay.Overlay.read_past.Goals as goal

pub reach-requires : goal.reach-requires
reach-requires g c = (c.args.self.now.covered c.requires.live).rising

pub read_past-requires-clause-untouched : goal.read_past-requires-clause-untouched
read_past-requires-clause-untouched g c =
    let layers = c.args.self.now.layers.items in
    let k = (c.args.self.now.kept c.requires.live).sparse in
    let s = get_there layers c.args.at.place (below_at layers c.args.at k c.requires.there) in
    subst (λ o. IfSome o (λ (r : Layer). IsUntouched r c.args.slot)) (sym s.1)
    (untouched_past c.args.self.now.bounds.items layers k (c.args.self.now.covered c.requires.live).touched c.args.at c.requires.there c.requires.child s.0 s.1 c.args.slot c.requires.past)

pub read_past-requires-clause-same : goal.read_past-requires-clause-same
read_past-requires-clause-same g c =
    let layers = c.args.self.now.layers.items in
    let k = (c.args.self.now.kept c.requires.live).sparse in
    let s = get_there layers c.args.at.place (below_at layers c.args.at k c.requires.there) in
    let x = world_at layers k c.args.at c.requires.there s.0 s.1 in
    let first : place_of (full_of layers) c.first_spot-first.result.world ≡ Some 0 = c.first_spot-first.ensures.at ∙ ap (λ i. Some i) c.first_spot-first.ensures.place in
    sym (holds layers k c.args.at c.requires.there s.0 s.1 c.args.slot
    ∙ past_content c.args.self.now.bounds.items (full_of layers) k.reached (c.args.self.now.covered c.requires.live).touched c.args.at.world c.first_spot-first.result.world c.args.at.place x.0 c.args.slot c.requires.there x.1 c.requires.past first)

pub read_past-requires-clause-top : goal.read_past-requires-clause-top
read_past-requires-clause-top g c = depth_first (full_of c.args.self.now.layers.items) c.first_spot-first.result.world (c.args.self.now.kept c.requires.live).sparse.reached (c.first_spot-first.ensures.at ∙ ap (λ i. Some i) c.first_spot-first.ensures.place)

pub invariant_of-self-2 : goal.invariant_of-self-2
invariant_of-self-2 g c =
    let layers = c.args.self.now.layers.items in
    let k = c.args.self.now.covered c.requires.live in
    record {
      kept = λ e. store_after layers c.read_past.new.layers.items c.args.self.now.places c.args.self.now.owners _ (c.args.self.now.kept c.requires.live) c.in_ok-answer.ensures.after (ids_read (full_of layers) c.args.at.world c.args.slot) c.in_ok-answer.ensures.len;
      covered = λ e. record {
        rising = c.in_ok-reach.ensures.rising;
        touched = subst (Covered c.reach.new.bounds.items) (sym c.in_ok-answer.ensures.after.full) (covered_read c.args.self.now.bounds.items c.reach.new.bounds.items c.in_ok-reach.ensures.grows (full_of layers) c.args.at.world c.args.at.place c.requires.there c.args.slot c.in_ok-reach.ensures.reached k.touched);
      };
    }

pub returns-clause-answers : goal.returns-clause-answers
returns-clause-answers g c = answers_store c.args.self.now.spent c.args.self.now.layers.items (full_of c.read_past.new.layers.items) (read c.args.at.world c.args.slot) (found (content_of c.in_ok-answer.answer)) c.requires.live (ap found (c.in_ok-answer.ensures.found)) (c.in_ok-answer.ensures.after.full)
