use Rattle.std.proofs.Common.{subst}
use Rattle.wjs_base.specs.Text.{Table, Grows}
use Rattle.wjs_heap.specs.Means.{parts}
use Rattle.wjs_start.proofs.Creation.{makes_on, buildable_first}
use Rattle.wjs_start.proofs.making.create_all.Goals as goal

pub create_one-requires-clause-buildable : goal.create_one-requires-clause-buildable
create_one-requires-clause-buildable g c = buildable_first c.args.blueprints.now c.loop-i.i _ c.loop-i-test.true c.requires.buildable

pub create_one-requires-clause-knows : goal.create_one-requires-clause-knows
create_one-requires-clause-knows g c = λ t more. c.requires.knows t (subst (λ (x : Table). Grows x t) c.loop-i.invariant.texts more)

pub loop-i-preserved : goal.loop-i-preserved
loop-i-preserved g c =
    let m = g.S.WorldStore.meaning in
    makes_on c.args.known.now c.args.blueprints.now c.loop-i.i _ (parts m c.args.heap.now) (parts m c.loop-i.heap) (parts m c.create_one.new.heap) c.loop-i-test.true c.loop-i.invariant c.in_ok-create_one.ensures
