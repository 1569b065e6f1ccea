use Rattle.std.proofs.Common.{◌≡◌, true, sym, ap, ◌∙◌, subst, arith, is_some, None, IfSome, set, slice_get}
use Rattle.std.specs.FinMap as map
use Rattle.std.proofs.lemmas.Result.{on_ok_weaker}
use Rattle.wjs_base.proofs.Options.{none_of}
use Rattle.wjs_base.proofs.Lists.{get_there}
use Rattle.wjs_store.specs.State.{after_write}
use Rattle.wjs_store.specs.Shown.{content_of}
use Rattle.wjs_layers.specs.declared.layer.Layer.{Layer}
use Rattle.wjs_layers.specs.Keyed.{rewritten}
use Rattle.wjs_layers.specs.Sparse.{IsSparse, IsAt, StandFor, full_of, depth_of}
use Rattle.wjs_layers.proofs.Looks.{below_at}
use Rattle.wjs_layers.proofs.WriteLaws.{over_row, over_none}
use Rattle.wjs_layers.proofs.layers.write_marked.Goals as goal

pub rewrite-requires-clause-there : goal.rewrite-requires-clause-there
rewrite-requires-clause-there g c = below_at c.args.layers.now c.args.world c.requires.sparse c.requires.there

pub returns-then-found-clause-after : goal.returns-then-found-clause-after
returns-then-found-clause-after g c =
    let s = get_there c.args.layers.now c.args.world.place (below_at c.args.layers.now c.args.world c.requires.sparse c.requires.there) in
    let up = subst (λ o. IfSome o (λ (r : Layer). is_some r.above ≡ true)) s.1 c.requires.parent in
    let e = subst (λ o. IfSome o (λ (r : Layer). c.rewrite.new.layers ≡ set c.args.layers.now c.args.world.place (record r { rows = rewritten r.rows c.args.slot c.args.content }))) s.1 c.in_ok-found.ensures.ok in
    let there = subst (λ o. IfSome o (λ (r : Layer). c.in_ok-found.found ≡ is_some (map.get r.rows c.args.slot))) s.1 c.in_ok-found.ensures.found in
    subst (λ ls. StandFor ls (after_write (full_of c.args.layers.now) c.args.world.world c.args.slot (content_of c.args.content))) (sym e)
    (over_row c.args.layers.now c.requires.sparse c.args.world c.requires.there s.0 s.1 c.args.slot c.args.content up (sym there ∙ c.if-found.true))

pub write_unseen-requires : goal.write_unseen-requires
write_unseen-requires g c =
    let s = get_there c.args.layers.now c.args.world.place (below_at c.args.layers.now c.args.world c.requires.sparse c.requires.there) in
    let e = subst (λ o. IfSome o (λ (r : Layer). c.rewrite.new.layers ≡ set c.args.layers.now c.args.world.place (record r { rows = rewritten r.rows c.args.slot c.args.content }))) s.1 c.in_ok-found.ensures.ok in
    let there = subst (λ o. IfSome o (λ (r : Layer). c.in_ok-found.found ≡ is_some (map.get r.rows c.args.slot))) s.1 c.in_ok-found.ensures.found in
    let none = none_of (map.get s.0.rows c.args.slot) (sym there ∙ c.if-found.false) in
    let same = e ∙ over_none c.args.layers.now c.requires.sparse c.args.world c.requires.there s.0 s.1 c.args.slot c.args.content none in
    record {
      sparse = subst IsSparse (sym same) c.requires.sparse;
      there = subst (λ ls. IsAt ls c.args.world) (sym same) c.requires.there;
      parent = subst (λ ls. IfSome (slice_get ls c.args.world.place) (λ (r : Layer). is_some r.above ≡ true)) (sym same) c.requires.parent;
      unseen = subst (λ ls. IfSome (slice_get ls c.args.world.place) (λ (r : Layer). map.get r.rows c.args.slot ≡ None)) (sym same)
          (subst (λ o. IfSome o (λ (r : Layer). map.get r.rows c.args.slot ≡ None)) (sym s.1) none);
    }

pub returns : goal.returns
returns g c =
    let s = get_there c.args.layers.now c.args.world.place (below_at c.args.layers.now c.args.world c.requires.sparse c.requires.there) in
    let e = subst (λ o. IfSome o (λ (r : Layer). c.rewrite.new.layers ≡ set c.args.layers.now c.args.world.place (record r { rows = rewritten r.rows c.args.slot c.args.content }))) s.1 c.in_ok-found.ensures.ok in
    let there = subst (λ o. IfSome o (λ (r : Layer). c.in_ok-found.found ≡ is_some (map.get r.rows c.args.slot))) s.1 c.in_ok-found.ensures.found in
    let none = none_of (map.get s.0.rows c.args.slot) (sym there ∙ c.if-found.false) in
    let same = e ∙ over_none c.args.layers.now c.requires.sparse c.args.world c.requires.there s.0 s.1 c.args.slot c.args.content none in
    let depth = ap (λ ls. depth_of (full_of ls) c.args.world.world) same in
    record {
      after = on_ok_weaker c.write_unseen.result (λ d. subst (λ ls. StandFor c.write_unseen.new.layers (after_write (full_of ls) c.args.world.world c.args.slot (content_of c.args.content))) same d) c.write_unseen.ensures.after;
      steps = omega (arith, depth, c.in_ok-found.ensures.look c.if-found.false, c.write_unseen.ensures.steps);
    }
