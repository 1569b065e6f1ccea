use Rattle.std.proofs.Common.{sym, ap, ◌∙◌}
use Rattle.std.specs.Prelude.{not}
use Rattle.wjs_heap_steps.proofs.Running.{does_ran}
use Rattle.wjs_heap_steps.proofs.Steps.{ran_sprout}
use Rattle.wjs_heap_steps.proofs.Later.{later_acted}
use Rattle.wjs_heap_steps.proofs.Sprouting.{child_fresh, sprout_apart}
use Rattle.wjs_heap_steps.proofs.worlds.sprout.Goals as goal

pub returns-clause-does : goal.returns-clause-does
returns-clause-does g c =
    let m = g.S.WorldStore.meaning in
    let old = c.args.config.now in
    does_ran m _ _ old _ (ran_sprout m c.args.world c.args.strict c.in_ok-child.child old c.sprout.new.heap c.in_ok-child.ensures.sprouts)

pub returns-clause-later : goal.returns-clause-later
returns-clause-later g c =
    let m = g.S.WorldStore.meaning in
    let old = c.args.config.now in
    let heap = c.sprout.new.heap in
    let works = ap not (sym c.is_spent.ensures ∙ c.if-is_spent.false) in
    let did = c.in_ok-child.ensures.sprouts in
    later_acted m _ _ old heap c.requires.base did (sprout_apart m old heap c.requires.base (g.met.S.WorldStore.sound old.heap.store works) (g.met.S.WorldStore.sound heap.store (ap not did.spent ∙ works)) c.args.world c.args.strict c.in_ok-child.child c.requires.world did)

pub returns-clause-fresh : goal.returns-clause-fresh
returns-clause-fresh g c =
    let m = g.S.WorldStore.meaning in
    let old = c.args.config.now in
    let works = ap not (sym c.is_spent.ensures ∙ c.if-is_spent.false) in
    let did = c.in_ok-child.ensures.sprouts in
    child_fresh m old c.sprout.new.heap c.requires.base (g.met.S.WorldStore.sound old.heap.store works) (g.met.S.WorldStore.sound c.sprout.new.heap.store (ap not did.spent ∙ works)) c.args.world c.args.strict c.in_ok-child.child did
