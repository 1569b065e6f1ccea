use Rattle.std.proofs.Common.{◌∙◌, ap, sym, subst}
use Rattle.wjs_base.specs.Order.{name_cmp}
use Rattle.wjs_names.specs.Kept.{rows_of}
use Rattle.wjs_names.specs.Lists.{IsInOrder}
use Rattle.wjs_names.proofs.kept.Kept.outgrown_past_three.Goals as goal

pub many_of-requires : goal.many_of-requires
many_of-requires g c = subst (IsInOrder name_cmp) (sym c.deref.ensures.value) (subst (λ k. IsInOrder name_cmp (rows_of k)) c.in-Few.is c.requires)

pub returns-in_ok-many_of-in-Few : goal.returns-in_ok-many_of-in-Few
returns-in_ok-many_of-in-Few g c = c.in_ok-many_of-in-Few.ensures ∙ c.deref.ensures.value ∙ ap rows_of (sym c.in-Few.is)

pub list_of_four-requires : goal.list_of_four-requires
list_of_four-requires g c = subst (λ k. IsInOrder name_cmp (rows_of k)) c.in-Four.is c.requires

pub returns-in_ok-list_of_four-in-Four : goal.returns-in_ok-list_of_four-in-Four
returns-in_ok-list_of_four-in-Four g c = c.in_ok-list_of_four-in-Four.ensures ∙ ap rows_of (sym c.in-Four.is)
