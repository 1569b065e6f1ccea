use Rattle.std.proofs.Common.{is_some, sym, ap, ◌∙◌}
use Rattle.std.specs.Option.{option_map}
use Rattle.std.specs.FinMap as map
use Rattle.wjs_layers.specs.Keyed.{rewritten}
use Rattle.wjs_layers.specs.Shorts.{row_in}
use Rattle.wjs_layers.proofs.Marked.{row_of_written, put_over, none_over}
use Rattle.wjs_layers.proofs.Tables.{rows_get}
use Rattle.wjs_layers.proofs.touched.Touched.rewrite.Goals as goal

pub returns-in-None-clause-found : goal.returns-in-None-clause-found
returns-in-None-clause-found g c =
    let kept = row_in c.self.inside.before in
    ap (λ o. is_some (option_map (kept c.args.slot) o)) (sym c.in-None.is ∙ c.copied.ensures ∙ c.get.ensures.row)
    ∙ ap is_some (sym (rows_get kept c.self.inside.rows c.args.slot) ∙ ap (λ m. map.get m c.args.slot) c.self.view_is)

pub returns-in-None-clause-ok : goal.returns-in-None-clause-ok
returns-in-None-clause-ok g c =
    let kept = row_in c.self.inside.before in
    none_over c.args.self.now c.args.slot c.args.content
    (ap (λ m. map.get m c.args.slot) (sym c.self.view_is) ∙ rows_get kept c.self.inside.rows c.args.slot
    ∙ ap (option_map (kept c.args.slot)) (sym (c.copied.ensures ∙ c.get.ensures.row) ∙ c.in-None.is))

pub returns-in_ok-set-in-Some-clause-found : goal.returns-in_ok-set-in-Some-clause-found
returns-in_ok-set-in-Some-clause-found g c =
    let kept = row_in c.self.inside.before in
    ap (λ o. is_some (option_map (kept c.args.slot) o)) (sym c.in-Some.is ∙ c.copied.ensures ∙ c.get.ensures.row)
    ∙ ap is_some (sym (rows_get kept c.self.inside.rows c.args.slot) ∙ ap (λ m. map.get m c.args.slot) c.self.view_is)

pub returns-in_ok-set-in-Some-clause-ok : goal.returns-in_ok-set-in-Some-clause-ok
returns-in_ok-set-in-Some-clause-ok g c =
    let before = c.self.inside.before in
    let new = c.mark_after.new.before in
    let mark = c.in_ok-mark-in-Some.ensures in
    let row = row_of_written new c.args.slot c.short.result c.in_ok-mark-in-Some.mark (row_in before c.args.slot c.in-Some.kept).read c.args.content c.short.ensures.mark c.short.ensures.content mark.read mark.written in
    put_over before new c.self.inside.rows c.set.new.self c.args.slot c.short.result mark.others c.in_ok-set-in-Some.ensures.ok c.in-Some.kept c.args.content (sym (c.copied.ensures ∙ c.get.ensures.row) ∙ c.in-Some.is) row
    ∙ ap (λ m. rewritten m c.args.slot c.args.content) c.self.view_is
