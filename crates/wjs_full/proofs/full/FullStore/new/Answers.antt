use Rattle.std.proofs.Common.{sym, subst}
use Rattle.wjs_store.specs.Reached.{IsReached}
use Rattle.wjs_store.proofs.Commits.{reached_fresh}
use Rattle.wjs_full.proofs.full.FullStore.new.Goals as goal

pub invariant_of-result : goal.invariant_of-result
invariant_of-result c = record { not_empty = c.in_ok-table.ensures.len; reached = λ e. subst IsReached (sym c.in_ok-table.ensures.worlds) reached_fresh }
