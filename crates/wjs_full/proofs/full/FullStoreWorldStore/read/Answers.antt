use Rattle.std.proofs.Common.{arith, ap, ◌∙◌}
use Rattle.wjs_full.specs.Rows.{worlds_in}
use Rattle.wjs_store.specs.Shown.{content_of}
use Rattle.wjs_store.specs.State.{read, found, content_at}
use Rattle.wjs_store.proofs.FixedStore.{answers_full, reached_full}
use Rattle.wjs_full.proofs.full.FullStoreWorldStore.read.Goals as goal

pub invariant_of-self : goal.invariant_of-self
invariant_of-self c = record { not_empty = omega (arith, c.args.self.now.not_empty, c.read.ensures.len); reached = reached_full (worlds_in c.args.self.now.table.items) (worlds_in c.read.new.table.items) c.args.self.now.spent (read c.args.world c.args.slot) c.in-Ok.ensures.after c.args.self.now.reached }

pub invariant_of-self-in-Err : goal.invariant_of-self-in-Err
invariant_of-self-in-Err c = record { not_empty = omega (arith, c.args.self.now.not_empty, c.read.ensures.len); reached = λ e. cc }

pub returns-in-Ok : goal.returns-in-Ok
returns-in-Ok c = answers_full (worlds_in c.args.self.now.table.items) (worlds_in c.read.new.table.items) c.args.self.now.spent (read c.args.world c.args.slot) (found (content_of c.shown.result)) c.if-self.false (ap found (c.shown.ensures ∙ c.content-found.ensures ∙ ap (λ t. content_at (worlds_in t) c.args.world c.args.slot) c.as_slice.ensures.value)) c.in-Ok.ensures.after
