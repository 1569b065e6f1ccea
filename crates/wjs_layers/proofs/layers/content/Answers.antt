use Rattle.std.proofs.Common.{refl, sym, ◌∙◌, arith}
use Rattle.wjs_layers.proofs.Places.{slice_read}
use Rattle.wjs_layers.proofs.Looks.{content_now, content_closed, content_first, content_above, now_none, above_at, depth_above, below_at}
use Rattle.wjs_layers.proofs.layers.content.Goals as goal

pub up-init : goal.up-init
up-init g c = record { there = c.requires.there; bound = below_at c.args.layers.now c.args.world c.requires.sparse c.requires.there; same = refl; cost = omega arith }

pub look_past-requires : goal.look_past-requires
look_past-requires g c = now_none _ (sym c.in_default.is ∙ c.now.ensures.now)

pub returns-in-Some-clause-content : goal.returns-in-Some-clause-content
returns-in-Some-clause-content g c =
    let s = slice_read c.args.layers.now c.up.at.place c.index-layers-at.result c.index-layers-at.is c.up.invariant.bound in
    content_now c.args.layers.now c.requires.sparse c.up.at c.up.invariant.there c.index-layers-at.result s c.args.slot c.in-Some.now c.in-Some.ensures.now ∙ c.up.invariant.same

pub returns-in-Closed-clause-content : goal.returns-in-Closed-clause-content
returns-in-Closed-clause-content g c =
    let s = slice_read c.args.layers.now c.up.at.place c.index-layers-at.result c.index-layers-at.is c.up.invariant.bound in
    sym (content_closed c.args.layers.now c.requires.sparse c.up.at c.up.invariant.there c.index-layers-at.result s c.args.slot c.in-Closed.ensures.seen.0 c.in-Closed.ensures.seen.1) ∙ c.up.invariant.same

pub returns-in-Nowhere-clause-content : goal.returns-in-Nowhere-clause-content
returns-in-Nowhere-clause-content g c =
    let s = slice_read c.args.layers.now c.up.at.place c.index-layers-at.result c.index-layers-at.is c.up.invariant.bound in
    sym (content_first c.args.layers.now c.requires.sparse c.up.at c.up.invariant.there c.index-layers-at.result s c.args.slot c.in-Nowhere.ensures.seen.0 c.in-Nowhere.ensures.seen.1) ∙ c.up.invariant.same

pub up-smaller : goal.up-smaller
up-smaller g c =
    let s = slice_read c.args.layers.now c.up.at.place c.index-layers-at.result c.index-layers-at.is c.up.invariant.bound in
    (above_at c.args.layers.now c.requires.sparse c.up.at c.up.invariant.there c.index-layers-at.result s c.in-Untouched.above c.in-Untouched.ensures.seen.2).1

pub up-preserved : goal.up-preserved
up-preserved g c =
    let s = slice_read c.args.layers.now c.up.at.place c.index-layers-at.result c.index-layers-at.is c.up.invariant.bound in
    let e = c.in-Untouched.ensures.seen in
    let a = above_at c.args.layers.now c.requires.sparse c.up.at c.up.invariant.there c.index-layers-at.result s c.in-Untouched.above e.2 in
    let d = depth_above c.args.layers.now c.requires.sparse c.up.at c.up.invariant.there c.index-layers-at.result s c.in-Untouched.above e.2 in
    record {
      there = a.0;
      bound = below_at c.args.layers.now c.in-Untouched.above c.requires.sparse a.0;
      same = sym (content_above c.args.layers.now c.requires.sparse c.up.at c.up.invariant.there c.index-layers-at.result s c.args.slot c.in-Untouched.above e.0 e.1 e.2) ∙ c.up.invariant.same;
      cost = omega (arith, d, c.up.invariant.cost, c.now.ensures.step, c.look_past.ensures.step);
    }
