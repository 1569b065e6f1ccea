use Rattle.std.proofs.Common.{arith, ap, ◌∙◌, refl}
use Rattle.wjs_full.specs.Rows.{worlds_in}
use Rattle.wjs_store.specs.Shown.{content_of}
use Rattle.wjs_store.specs.State.{write, wrote, after_write}
use Rattle.wjs_store.proofs.FixedStore.{answers_full, reached_full}
use Rattle.wjs_full.proofs.full.FullStoreWorldStore.write.Goals as goal

pub invariant_of-self : goal.invariant_of-self
invariant_of-self c = record { not_empty = omega (arith, c.args.self.now.not_empty, c.write.ensures.len); reached = reached_full (worlds_in c.args.self.now.table.items) (worlds_in c.write.new.table.items) c.args.self.now.spent (write c.args.world c.args.slot (content_of c.args.content)) (c.in-Ok.ensures.after ∙ ap (after_write (worlds_in c.args.self.now.table.items) c.args.world c.args.slot) c.meant.ensures) c.args.self.now.reached }

pub invariant_of-self-in-Err : goal.invariant_of-self-in-Err
invariant_of-self-in-Err c = record { not_empty = omega (arith, c.args.self.now.not_empty, c.write.ensures.len); reached = λ e. cc }

pub returns-in-Ok : goal.returns-in-Ok
returns-in-Ok c = answers_full (worlds_in c.args.self.now.table.items) (worlds_in c.write.new.table.items) c.args.self.now.spent (write c.args.world c.args.slot (content_of c.args.content)) (wrote) c.if-self.false refl (c.in-Ok.ensures.after ∙ ap (after_write (worlds_in c.args.self.now.table.items) c.args.world c.args.slot) c.meant.ensures)
