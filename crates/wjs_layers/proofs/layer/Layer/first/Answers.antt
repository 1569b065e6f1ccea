use Rattle.std.proofs.Common.{ap, ◌∙◌, None, false}
use Rattle.wjs_layers.specs.Shorts.{at_first}
use Rattle.wjs_layers.specs.Keyed.{rows_by}
use Rattle.wjs_layers.proofs.Tables.{rows_empty}
use Rattle.wjs_layers.proofs.layer.Layer.first.Goals as goal

pub returns : goal.returns
returns c =
    let rows = ap (rows_by at_first) c.new.ensures ∙ rows_empty at_first in
    let closed = c.new-2.ensures in
    λ i. record { id = c.args.id; above = None; strict = false; rows = rows i; closed = closed i }
