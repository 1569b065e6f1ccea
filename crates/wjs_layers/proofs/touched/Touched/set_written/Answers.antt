use Rattle.std.proofs.Common.{ap, ◌∙◌}
use Rattle.std.proofs.lemmas.Result.{on_ok_weaker}
use Rattle.std.specs.FinMap as map
use Rattle.wjs_layers.specs.Shorts.{row_written}
use Rattle.wjs_layers.proofs.Marked.{row_of_written, put_written}
use Rattle.wjs_layers.proofs.touched.Touched.set_written.Goals as goal

pub returns-clause-ok : goal.returns-clause-ok
returns-clause-ok g c =
    let before = c.self.inside.before in
    let new = c.mark_over.new.before in
    let mark = c.in_ok-mark.ensures in
    let row = row_of_written new c.args.slot c.short.result c.in_ok-mark.mark c.args.read c.args.content c.short.ensures.mark c.short.ensures.content mark.read mark.written in
    on_ok_weaker c.set.result (λ e.
    put_written before new c.self.inside.rows c.set.new.self c.args.slot c.short.result mark.others e (row_written c.args.read c.args.content) row
    ∙ ap (λ m. map.insert m c.args.slot (row_written c.args.read c.args.content)) c.self.view_is) c.set.ensures.ok
