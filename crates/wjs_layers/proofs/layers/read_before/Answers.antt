use Rattle.std.proofs.Common.{◌≡◌, rules, ◌<◌, length, sym, ◌∙◌, subst, arith, true, is_some, None, IfSome}
use Rattle.std.specs.FinMap as map
use Rattle.wjs_layers.specs.declared.layer.Layer.{Layer}
use Rattle.wjs_layers.proofs.Places.{slice_read}
use Rattle.wjs_layers.proofs.Looks.{above_at, depth_above, below_at}
use Rattle.wjs_layers.proofs.WriteLaws.{before_closed, before_plain, before_strict, before_nowhere}
use Rattle.wjs_layers.proofs.layers.read_before.Goals as goal

pub offset_bounds-layers-world : goal.offset_bounds-layers-world
offset_bounds-layers-world g c = let l : c.args.world.place < length c.args.layers.now = (below_at c.args.layers.now c.args.world c.requires.sparse c.requires.there) in search rules

pub bounds-layers-world : goal.bounds-layers-world
bounds-layers-world g c = (below_at c.args.layers.now c.args.world c.requires.sparse c.requires.there)

pub content-requires-clause-there : goal.content-requires-clause-there
content-requires-clause-there g c = (above_at c.args.layers.now c.requires.sparse c.args.world c.requires.there c.index-layers-world.result (slice_read c.args.layers.now c.args.world.place c.index-layers-world.result c.index-layers-world.is (below_at c.args.layers.now c.args.world c.requires.sparse c.requires.there)) c.in-Untouched.above c.in-Untouched.ensures.seen.2).0

pub look_past-requires : goal.look_past-requires
look_past-requires g c = subst (λ o. IfSome o (λ (r : Layer). map.get r.rows c.args.slot ≡ None)) (slice_read c.args.layers.now c.args.world.place c.index-layers-world.result c.index-layers-world.is (below_at c.args.layers.now c.args.world c.requires.sparse c.requires.there)) c.requires.unseen

pub returns-in-Closed-clause-read : goal.returns-in-Closed-clause-read
returns-in-Closed-clause-read g c = λ x f. before_closed c.args.layers.now c.requires.sparse c.args.world c.requires.there c.index-layers-world.result (slice_read c.args.layers.now c.args.world.place c.index-layers-world.result c.index-layers-world.is (below_at c.args.layers.now c.args.world c.requires.sparse c.requires.there)) c.args.slot (subst (λ o. IfSome o (λ (r : Layer). is_some r.above ≡ true)) (slice_read c.args.layers.now c.args.world.place c.index-layers-world.result c.index-layers-world.is (below_at c.args.layers.now c.args.world c.requires.sparse c.requires.there)) c.requires.parent) x f c.in-Closed.ensures.seen

pub returns-in-Nowhere-clause-read : goal.returns-in-Nowhere-clause-read
returns-in-Nowhere-clause-read g c = λ x f. before_nowhere c.args.layers.now c.requires.sparse c.args.world c.requires.there c.index-layers-world.result (slice_read c.args.layers.now c.args.world.place c.index-layers-world.result c.index-layers-world.is (below_at c.args.layers.now c.args.world c.requires.sparse c.requires.there)) c.args.slot (subst (λ o. IfSome o (λ (r : Layer). is_some r.above ≡ true)) (slice_read c.args.layers.now c.args.world.place c.index-layers-world.result c.index-layers-world.is (below_at c.args.layers.now c.args.world c.requires.sparse c.requires.there)) c.requires.parent) x f c.in-Nowhere.ensures.seen

pub returns-then-not-is_strict-clause-read : goal.returns-then-not-is_strict-clause-read
returns-then-not-is_strict-clause-read g c = λ x f. before_plain c.args.layers.now c.requires.sparse c.args.world c.requires.there c.index-layers-world.result (slice_read c.args.layers.now c.args.world.place c.index-layers-world.result c.index-layers-world.is (below_at c.args.layers.now c.args.world c.requires.sparse c.requires.there)) c.args.slot (subst (λ o. IfSome o (λ (r : Layer). is_some r.above ≡ true)) (slice_read c.args.layers.now c.args.world.place c.index-layers-world.result c.index-layers-world.is (below_at c.args.layers.now c.args.world c.requires.sparse c.requires.there)) c.requires.parent) x f c.in-Untouched.above c.in-Untouched.ensures.seen (sym c.is_strict.ensures ∙ c.if-not-is_strict.true)

pub returns-else-not-is_strict-clause-read : goal.returns-else-not-is_strict-clause-read
returns-else-not-is_strict-clause-read g c = λ x f. before_strict c.args.layers.now c.requires.sparse c.args.world c.requires.there c.index-layers-world.result (slice_read c.args.layers.now c.args.world.place c.index-layers-world.result c.index-layers-world.is (below_at c.args.layers.now c.args.world c.requires.sparse c.requires.there)) c.args.slot (subst (λ o. IfSome o (λ (r : Layer). is_some r.above ≡ true)) (slice_read c.args.layers.now c.args.world.place c.index-layers-world.result c.index-layers-world.is (below_at c.args.layers.now c.args.world c.requires.sparse c.requires.there)) c.requires.parent) x f c.in-Untouched.above c.content.result c.in-Untouched.ensures.seen (sym c.is_strict.ensures ∙ c.if-not-is_strict.false) c.content.ensures.content

pub returns-else-not-is_strict-clause-steps : goal.returns-else-not-is_strict-clause-steps
returns-else-not-is_strict-clause-steps g c =
    let d = depth_above c.args.layers.now c.requires.sparse c.args.world c.requires.there c.index-layers-world.result (slice_read c.args.layers.now c.args.world.place c.index-layers-world.result c.index-layers-world.is (below_at c.args.layers.now c.args.world c.requires.sparse c.requires.there)) c.in-Untouched.above c.in-Untouched.ensures.seen.2 in
    omega (arith, d, c.look_past.ensures.step, c.content.ensures.steps)
