use Rattle.std.proofs.Common.{ap, ◌∙◌}
use Rattle.std.specs.Map.{lookup_entry}
use Rattle.std.specs.Map.Iter.{deref_pair}
use Rattle.wjs_rows.specs.Order.{is_from}
use Rattle.wjs_rows.proofs.Firsts.{first_taken}
use Rattle.wjs_rows.proofs.rows.Rows.next_from.Goals as goal

pub returns-clause-least : goal.returns-clause-least
returns-clause-least g c =
    first_taken deref_pair (is_from g.K.Ord.cmp c.args.key.now) c.self.inside.tree.entries _ _ c.next.result c.next.ensures.steps (c.range-rest.ensures.between tt)
    ∙ ap (lookup_entry (is_from g.K.Ord.cmp c.args.key.now)) c.self.view_is
