use Rattle.std.proofs.Common.{take}
use Rattle.wjs_store.specs.Run.{Runs}
use Rattle.wjs_full.proofs.run.run_actions.Given as goal

abbrev pub invariant-loop-action : goal.invariant-loop-action
invariant-loop-action g l = Runs (g.S.WorldStore.meaning l.fn.store) (take l.action-index l.actions) l.answers.items (g.S.WorldStore.meaning l.store)
