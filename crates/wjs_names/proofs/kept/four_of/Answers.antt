use Rattle.std.proofs.Common.{[], ◌∷◌, ◌∙◌, ap, sym, subst}
use Rattle.wjs_base.specs.Order.{name_cmp, name_total}
use Rattle.wjs_names.specs.Kept.{short_rows}
use Rattle.wjs_names.specs.Lists.{IsInOrder}
use Rattle.wjs_names.proofs.Filling.{sorted_all}
use Rattle.wjs_names.proofs.kept.four_of.Goals as goal

pub new-requires-clause-ordered : goal.new-requires-clause-ordered
new-requires-clause-ordered g c = subst (IsInOrder name_cmp) (sym c.in_ok-first.ensures.put ∙ ap short_rows c.in-Three.is) (sorted_all name_total (c.args.a ∷ c.args.b ∷ c.args.c ∷ []) [] tt)
