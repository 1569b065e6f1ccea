use Rattle.std.proofs.Common.{◌∙◌, sym, subst}
use Rattle.wjs_base.specs.Order.{name_cmp}
use Rattle.wjs_names.specs.Lists.{IsInOrder}
use Rattle.wjs_names.proofs.kept.Kept.outgrown.Goals as goal

pub list_of-requires : goal.list_of-requires
list_of-requires g c = subst (IsInOrder name_cmp) (sym c.in-Some.ensures.rows) c.requires

pub returns-in_ok-list_of-in-Some : goal.returns-in_ok-list_of-in-Some
returns-in_ok-list_of-in-Some g c = c.in_ok-list_of-in-Some.ensures ∙ c.in-Some.ensures.rows
