use Rattle.std.proofs.Common.{◌∙◌, cond, Some, None, ap, sym}
use Rattle.wjs_names.proofs.short.value_in.Goals as goal

pub returns-then-is_named : goal.returns-then-is_named
returns-then-is_named g c = sym (ap (λ b. cond b (Some c.args.row.now.1) None) (sym c.is_named.ensures ∙ c.if-is_named.true))

pub returns-else-is_named : goal.returns-else-is_named
returns-else-is_named g c = sym (ap (λ b. cond b (Some c.args.row.now.1) None) (sym c.is_named.ensures ∙ c.if-is_named.false))
