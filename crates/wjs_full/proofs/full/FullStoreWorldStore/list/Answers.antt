use Rattle.std.proofs.Common.{arith, ap}
use Rattle.wjs_full.specs.Rows.{worlds_in}
use Rattle.wjs_store.specs.Shown.{slots_of}
use Rattle.wjs_store.specs.State.{list, listed}
use Rattle.wjs_store.proofs.FixedStore.{answers_full, reached_full}
use Rattle.wjs_full.proofs.full.FullStoreWorldStore.list.Goals as goal

pub invariant_of-self : goal.invariant_of-self
invariant_of-self c = record { not_empty = omega (arith, c.args.self.now.not_empty, c.list_names.ensures.len); reached = reached_full (worlds_in c.args.self.now.table.items) (worlds_in c.list_names.new.table.items) c.args.self.now.spent (list c.args.world c.args.object) c.in-Ok.ensures.after c.args.self.now.reached }

pub invariant_of-self-in-Err : goal.invariant_of-self-in-Err
invariant_of-self-in-Err c = record { not_empty = omega (arith, c.args.self.now.not_empty, c.list_names.ensures.len); reached = λ e. cc }

pub returns-in-Ok : goal.returns-in-Ok
returns-in-Ok c = answers_full (worlds_in c.args.self.now.table.items) (worlds_in c.list_names.new.table.items) c.args.self.now.spent (list c.args.world c.args.object) (listed (slots_of c.args.object c.in-Ok.names)) c.if-self.false (ap listed c.in-Ok.ensures.names) c.in-Ok.ensures.after
