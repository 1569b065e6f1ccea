use Rattle.std.proofs.Common.{◌∙◌, cond, Some, ap, sym}
use Rattle.wjs_names.proofs.short.or_behind.Goals as goal

pub returns-then-passes : goal.returns-then-passes
returns-then-passes g c = ap (λ n. Some (n, c.args.row.1)) c.name.ensures ∙ sym (ap (λ b. cond b (Some c.args.row) c.args.behind) c.if-passes.true)

pub returns-else-passes : goal.returns-else-passes
returns-else-passes g c = sym (ap (λ b. cond b (Some c.args.row) c.args.behind) c.if-passes.false)
