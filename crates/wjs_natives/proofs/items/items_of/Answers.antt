use Rattle.std.proofs.Common.{◌+◌, List, sym, subst}
use Rattle.wjs_model.specs.declared.frame.Held.{Held}
use Rattle.wjs_natives.proofs.Holding.{Holds, holds_none, holds_more, holds_all}
use Rattle.wjs_natives.proofs.items.items_of.Goals as goal

pub loop-value-init : goal.loop-value-init
loop-value-init g c = subst (λ (l : List Held). Holds c.args.config.now c.args.values.now l 0) (sym c.nothing_held-items.ensures) (holds_none c.args.config.now c.args.values.now)

pub loop-value-preserved : goal.loop-value-preserved
loop-value-preserved g c =
    subst (λ (l : List Held). Holds c.args.config.now c.args.values.now l (c.loop-value.value-index + 1)) (sym c.in_ok-push.ensures.ok)
    (holds_more c.args.config.now c.args.values.now c.loop-value.items c.loop-value.value-index c.value-item.result c.loop-value.invariant c.requires c.loop-value-test.true c.value-item.is)

pub returns-clause-values : goal.returns-clause-values
returns-clause-values g c = holds_all c.args.config.now c.args.values.now c.loop-value.items c.loop-value.value-index c.loop-value.invariant c.loop-value-test.false

pub returns-clause-found : goal.returns-clause-found
returns-clause-found g c = c.loop-value.invariant.found
