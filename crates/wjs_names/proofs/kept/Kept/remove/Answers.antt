use Rattle.std.proofs.Common.{◌∙◌, is_some, ap, sym, subst}
use Rattle.wjs_base.specs.Order.{name_cmp}
use Rattle.wjs_names.specs.Lists.{IsInOrder, without}
use Rattle.wjs_names.proofs.Basics.{some_copied}
use Rattle.wjs_names.proofs.kept.Kept.remove.Goals as goal

pub without-requires : goal.without-requires
without-requires g c = subst (IsInOrder name_cmp) (sym c.in-Some.ensures.rows) c.requires

pub returns-in-Some-clause-removed : goal.returns-in-Some-clause-removed
returns-in-Some-clause-removed g c = c.kept_of.ensures ∙ c.without.ensures ∙ ap (without name_cmp c.args.name) c.in-Some.ensures.rows

pub returns-in-Some-clause-found : goal.returns-in-Some-clause-found
returns-in-Some-clause-found g c = c.is_some-found.ensures ∙ some_copied c.get.result ∙ ap is_some c.get.ensures
