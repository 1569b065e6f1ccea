use Rattle.std.proofs.Common.{arith, ap}
use Rattle.wjs_full.specs.Rows.{worlds_in}
use Rattle.wjs_store.specs.Shown.{verdict_of}
use Rattle.wjs_store.specs.State.{commit, committed}
use Rattle.wjs_store.proofs.FixedStore.{answers_full, reached_full}
use Rattle.wjs_full.proofs.full.FullStoreWorldStore.commit.Goals as goal

pub invariant_of-self : goal.invariant_of-self
invariant_of-self c = record { not_empty = omega (arith, c.args.self.now.not_empty, c.commit.ensures.len); reached = reached_full (worlds_in c.args.self.now.table.items) (worlds_in c.commit.new.table.items) c.args.self.now.spent (commit c.args.world) c.in-Ok.ensures.after c.args.self.now.reached }

pub invariant_of-self-in-Err : goal.invariant_of-self-in-Err
invariant_of-self-in-Err c = record { not_empty = omega (arith, c.args.self.now.not_empty, c.commit.ensures.len); reached = λ e. cc }

pub returns-in-Ok : goal.returns-in-Ok
returns-in-Ok c = answers_full (worlds_in c.args.self.now.table.items) (worlds_in c.commit.new.table.items) c.args.self.now.spent (commit c.args.world) (committed (verdict_of c.in-Ok.verdict)) c.if-self.false (ap committed c.in-Ok.ensures.verdict) c.in-Ok.ensures.after
