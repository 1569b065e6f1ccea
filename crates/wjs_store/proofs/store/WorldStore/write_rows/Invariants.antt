use Rattle.std.proofs.Common.{IsTrue}
use Rattle.std.specs.Prelude.{not}
use Rattle.wjs_store.specs.State.{has_world}
use Rattle.wjs_store.specs.Meaning.{worlds}
use Rattle.wjs_store.proofs.AllAnswered.{Left}
use Rattle.wjs_store.proofs.store.WorldStore.write_rows.Given as goal

abbrev pub invariant-loop-row : goal.invariant-loop-row
invariant-loop-row g l =
    let meaning = g.Self.WorldStore.meaning in
    record {
      there : IsTrue (has_world (worlds (meaning l.self)) l.world);
      works : IsTrue (not (meaning l.fn.self).spent);
      left : Left l.world l.object l.rows l.row-index (meaning l.fn.self) (meaning l.self);
    }
