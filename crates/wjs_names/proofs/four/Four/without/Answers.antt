use Rattle.std.proofs.Common.{◌≡◌, MatchOption, None, is_some, true, sym, subst}
use Rattle.std.specs.FinMap.Entries.{find}
use Rattle.wjs_base.specs.Order.{name_cmp}
use Rattle.wjs_names.specs.Kept.{short_rows}
use Rattle.wjs_names.specs.Lists.{IsInOrder, without}
use Rattle.wjs_names.proofs.four.Four.without.Goals as goal

pub without_of_four-requires : goal.without_of_four-requires
without_of_four-requires g c = subst (IsInOrder name_cmp) (sym c.rows-rows.ensures) c.requires

pub returns : goal.returns
returns g c =
    subst (λ rows. MatchOption c.without_of_four.result (find name_cmp c.args.name rows ≡ None)
    (λ short. (short_rows short ≡ without name_cmp c.args.name rows) × (is_some (find name_cmp c.args.name rows) ≡ true))) c.rows-rows.ensures c.without_of_four.ensures
