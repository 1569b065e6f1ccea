use Rattle.std.proofs.Common.{refl, ap, ◌∙◌}
use Rattle.std.proofs.lemmas.Result.{on_ok_weaker}
use Rattle.std.specs.FinMap as map
use Rattle.wjs_layers.specs.Shorts.{row_read}
use Rattle.wjs_layers.proofs.Marked.{row_of_read, put_written}
use Rattle.wjs_layers.proofs.touched.Touched.set_read.Goals as goal

pub returns-clause-ok : goal.returns-clause-ok
returns-clause-ok g c =
    let before = c.self.inside.before in
    let row = row_of_read before c.args.slot c.short.result c.args.read c.short.ensures.mark c.short.ensures.content in
    on_ok_weaker c.set.result (λ e.
    put_written before before c.self.inside.rows c.set.new.self c.args.slot c.short.result (λ t b. refl) e (row_read c.args.read) row
    ∙ ap (λ m. map.insert m c.args.slot (row_read c.args.read)) c.self.view_is) c.set.ensures.ok
