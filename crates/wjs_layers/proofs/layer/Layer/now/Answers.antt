use Rattle.std.proofs.Common.{refl, sym, ap, ◌∙◌, Option}
use Rattle.std.specs.Option.{option_map, option_copied}
use Rattle.std.specs.FinMap as map
use Rattle.wjs_layers.specs.declared.maps.Row.{Row}
use Rattle.wjs_layers.specs.Shorts.{row_first, at_first}
use Rattle.wjs_layers.proofs.Marked.{now_kept}
use Rattle.wjs_layers.proofs.Tables.{rows_get}
use Rattle.wjs_layers.proofs.Shapes.{rows_first, rows_under}
use Rattle.wjs_layers.proofs.layer.Layer.now.Goals as goal

pub returns-in-First-clause-now : goal.returns-in-First-clause-now
returns-in-First-clause-now g c =
    let f = λ (o : Option Row). option_map (λ (row : Row). row.now) o in
    c.held.ensures ∙ now_kept row_first (λ _. refl) (option_copied c.get.result)
    ∙ ap (λ o. f (option_map row_first o)) c.get.ensures.row ∙ ap f (sym (rows_get at_first c.in-First.values c.args.slot) ∙ ap (λ m. map.get m c.args.slot) (rows_first c.self.inside c.args.self.now c.self.view_is c.in-First.values c.in-First.is))

pub returns-in-Under-clause-now : goal.returns-in-Under-clause-now
returns-in-Under-clause-now g c = c.now.ensures.now ∙ ap (λ m. option_map (λ (row : Row). row.now) (map.get m c.args.slot)) (rows_under c.self.inside c.args.self.now c.self.view_is _ c.in-Under.rows c.in-Under.is)
