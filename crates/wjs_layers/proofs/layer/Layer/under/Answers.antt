use Rattle.std.proofs.Common.{Some}
use Rattle.wjs_layers.proofs.layer.Layer.under.Goals as goal

pub returns : goal.returns
returns c =
    let rows = c.new.ensures in
    let closed = c.new-2.ensures in
    λ i. record { id = c.args.id; above = Some c.args.above; strict = c.args.strict; rows = rows i; closed = closed i }
