use Rattle.std.proofs.Common.{◌∙◌, sym, subst}
use Rattle.wjs_base.specs.Order.{name_cmp}
use Rattle.wjs_names.specs.Lists.{IsInOrder}
use Rattle.wjs_names.proofs.Basics.{if_ok}
use Rattle.wjs_names.proofs.kept.list_of_four.Goals as goal

pub many_of-requires : goal.many_of-requires
many_of-requires g c = subst (IsInOrder name_cmp) (sym (c.as_slice.ensures.value ∙ c.in_ok-few.ensures)) c.requires

pub returns-then-is_none : goal.returns-then-is_none
returns-then-is_none g c = if_ok c.many_of.result (λ kept e. e ∙ c.as_slice.ensures.value ∙ c.in_ok-few.ensures) c.many_of.ensures
