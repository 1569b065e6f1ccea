use Rattle.std.proofs.Common.{ap, ◌∙◌}
use Rattle.wjs_layers.specs.Shorts.{apart_of, read_by}
use Rattle.wjs_layers.proofs.touched.row.Goals as goal

pub returns : goal.returns
returns c =
    let now = c.content-now.ensures in
    let read = c.recorded.ensures ∙ ap (λ k. read_by c.args.kept.mark k (apart_of c.args.before.now c.args.slot)) now in
    λ i. record { read = read i; now = now i; written = c.is_written.ensures i }
