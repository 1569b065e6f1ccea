use Rattle.std.proofs.Common.{refl, sym, ap, ◌∙◌, Option}
use Rattle.std.specs.Option.{option_map, option_copied}
use Rattle.std.specs.FinMap as map
use Rattle.wjs_layers.specs.declared.maps.Row.{Row}
use Rattle.wjs_layers.specs.Shorts.{row_in}
use Rattle.wjs_layers.proofs.Marked.{now_kept}
use Rattle.wjs_layers.proofs.Tables.{rows_get}
use Rattle.wjs_layers.proofs.touched.Touched.now.Goals as goal

pub returns-clause-now : goal.returns-clause-now
returns-clause-now g c =
    let kept = row_in c.self.inside.before in
    let f = λ (o : Option Row). option_map (λ (row : Row). row.now) o in
    c.held.ensures ∙ now_kept (kept c.args.slot) (λ _. refl) (option_copied c.get.result)
    ∙ ap (λ o. f (option_map (kept c.args.slot) o)) c.get.ensures.row ∙ ap f (sym (rows_get kept c.self.inside.rows c.args.slot) ∙ ap (λ m. map.get m c.args.slot) c.self.view_is)
