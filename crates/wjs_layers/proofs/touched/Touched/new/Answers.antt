use Rattle.std.proofs.Common.{ap, ◌∙◌}
use Rattle.wjs_layers.specs.Keyed.{rows_by}
use Rattle.wjs_layers.specs.Shorts.{row_in}
use Rattle.wjs_layers.proofs.Tables.{rows_empty}
use Rattle.wjs_layers.proofs.touched.Touched.new.Goals as goal

pub returns : goal.returns
returns c = ap (rows_by (row_in c.new-2.result)) c.new.ensures ∙ rows_empty (row_in c.new-2.result)
