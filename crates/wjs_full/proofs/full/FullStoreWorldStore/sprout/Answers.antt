use Rattle.std.proofs.Common.{arith, ap}
use Rattle.wjs_full.specs.Rows.{worlds_in}
use Rattle.wjs_store.specs.State.{sprout, sprouted}
use Rattle.wjs_store.proofs.FixedStore.{answers_full, reached_full}
use Rattle.wjs_full.proofs.full.FullStoreWorldStore.sprout.Goals as goal

pub invariant_of-self : goal.invariant_of-self
invariant_of-self c = record { not_empty = omega (arith, c.args.self.now.not_empty, c.sprout.ensures.len); reached = reached_full (worlds_in c.args.self.now.table.items) (worlds_in c.sprout.new.table.items) c.args.self.now.spent (sprout c.args.world c.args.owner c.args.strict) c.in-Ok.ensures.after c.args.self.now.reached }

pub invariant_of-self-in-Err : goal.invariant_of-self-in-Err
invariant_of-self-in-Err c = record { not_empty = omega (arith, c.args.self.now.not_empty, c.sprout.ensures.len); reached = λ e. cc }

pub returns-in-Ok : goal.returns-in-Ok
returns-in-Ok c = answers_full (worlds_in c.args.self.now.table.items) (worlds_in c.sprout.new.table.items) c.args.self.now.spent (sprout c.args.world c.args.owner c.args.strict) (sprouted c.in-Ok.child) c.if-self.false (ap sprouted c.in-Ok.ensures.id) c.in-Ok.ensures.after
