use Rattle.std.proofs.Common.{[], ◌∙◌, sym}
use Rattle.wjs_base.specs.Order.{name_total}
use Rattle.wjs_names.proofs.Shorts.{less_first, less_next}
use Rattle.wjs_names.proofs.short.without_of_one.Goals as goal

pub returns-then-is_named : goal.returns-then-is_named
returns-then-is_named g c = less_first name_total c.args.name c.args.row [] tt (sym c.is_named.ensures ∙ c.if-is_named.true)

pub returns-else-is_named : goal.returns-else-is_named
returns-else-is_named g c = less_next name_total c.args.name c.args.row [] (sym c.is_named.ensures ∙ c.if-is_named.false)
