use Rattle.std.proofs.Common.{sym, ap, ◌∙◌}
use Rattle.std.specs.Prelude.{not}
use Rattle.wjs_heap_steps.proofs.Running.{does_ran}
use Rattle.wjs_heap_steps.proofs.Steps.{ran_test}
use Rattle.wjs_heap_steps.proofs.worlds.has_world.Goals as goal

pub returns-clause-does : goal.returns-clause-does
returns-clause-does g c =
    let m = g.S.WorldStore.meaning in
    let old = c.args.config.now in
    does_ran m _ _ old old (ran_test m c.args.world c.has_world.result old (g.met.S.WorldStore.sound old.heap.store (ap not (sym c.is_spent.ensures ∙ c.if-is_spent.false))) c.has_world.ensures)

pub returns-clause-found : goal.returns-clause-found
returns-clause-found g c = λ e. sym c.has_world.ensures ∙ e
