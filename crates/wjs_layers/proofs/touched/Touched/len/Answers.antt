use Rattle.std.proofs.Common.{length, sym, ap, ◌∙◌}
use Rattle.std.specs.FinMap as map
use Rattle.wjs_layers.specs.Shorts.{row_in}
use Rattle.wjs_layers.proofs.Tables.{rows_length}
use Rattle.wjs_layers.proofs.touched.Touched.len.Goals as goal

pub returns : goal.returns
returns c = c.len.ensures ∙ sym (rows_length (row_in c.self.inside.before) c.self.inside.rows) ∙ ap (λ m. length (map.entries m)) c.self.view_is
