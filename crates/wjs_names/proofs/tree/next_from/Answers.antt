use Rattle.std.proofs.Common.{◌∙◌, ap, sym}
use Rattle.std.specs.Map.Iter.{deref_pair}
use Rattle.std.specs.Option.{option_map}
use Rattle.wjs_rows.specs.Order.{is_from}
use Rattle.wjs_rows.proofs.Firsts.{first_taken}
use Rattle.wjs_names.proofs.tree.next_from.Goals as goal

pub returns-in-None : goal.returns-in-None
returns-in-None g c =
    sym (ap (option_map deref_pair) c.in-None.is)
    ∙ first_taken deref_pair (is_from g.K.Ord.cmp c.args.key.now) c.args.tree.now.entries _ _ c.next.result c.next.ensures.steps (c.range-rest.ensures.between tt)

pub returns-in-Some : goal.returns-in-Some
returns-in-Some g c =
    sym (ap (option_map deref_pair) c.in-Some.is)
    ∙ first_taken deref_pair (is_from g.K.Ord.cmp c.args.key.now) c.args.tree.now.entries _ _ c.next.result c.next.ensures.steps (c.range-rest.ensures.between tt)
