use Rattle.std.proofs.Common.{◌≡◌}
use Rattle.wjs_base.specs.Text.{Table}
use Rattle.wjs_by_content.specs.Objects.{Arena, scope_up}
use Rattle.wjs_model.specs.Outside.{Sees}
use Rattle.wjs_model.specs.Soundness.{HasObject}
use Rattle.wjs_heap_steps.proofs.looks.scope_up.Given as goal

abbrev pub invariant-out : goal.invariant-out
invariant-out g l = record {
  there : HasObject l.config l.at;
  rest : (t : Table) (arena : Arena) → Sees g.S.WorldStore.meaning l.config t arena → scope_up arena l.fn.hops l.fn.scope ≡ scope_up arena l.left l.at;
}

abbrev pub decreases-out : goal.decreases-out
decreases-out g l = l.left
