use Rattle.std.proofs.Common.{◌∙◌, ap, ◌++◌, ◌+◌, map, subst, sym, drop}
use Rattle.wjs_by_content.specs.Renamed.{Holds}
use Rattle.wjs_props.specs.declared.order.Spelled.{Spelled}
use Rattle.wjs_props.specs.Spelled.{IsSpelled}
use Rattle.wjs_props.proofs.SpelledNames.{holds_more, names_further}
use Rattle.wjs_props.proofs.order.spell_all.Goals as goal

pub names-preserved : goal.names-preserved
names-preserved c =
    let more = c.in_ok-push.ensures.items in
    record {
      names = ap (λ xs. map (λ (z : Spelled). z.name) xs ++ drop (c.names.place + 1) c.args.names.now) more
          ∙ names_further c.names.all.items c.spell-each.result c.args.names.now c.names.place c.at.result c.at.ensures c.spell-each.ensures.name c.names.invariant.names;
      units = subst (Holds (IsSpelled c.args.texts.now)) (sym more) (holds_more (IsSpelled c.args.texts.now) c.names.all.items c.spell-each.result c.names.invariant.units c.spell-each.ensures.units);
    }
