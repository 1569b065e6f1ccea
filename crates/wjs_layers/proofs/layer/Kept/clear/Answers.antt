use Rattle.std.proofs.Common.{ap, ◌∙◌}
use Rattle.wjs_layers.specs.Keyed.{rows_by}
use Rattle.wjs_layers.specs.Shorts.{at_first}
use Rattle.wjs_layers.proofs.Tables.{rows_empty}
use Rattle.wjs_layers.proofs.layer.Kept.clear.Goals as goal

pub returns-in-First-clause-rows : goal.returns-in-First-clause-rows
returns-in-First-clause-rows c = ap (rows_by at_first) c.new.ensures ∙ rows_empty at_first
