use Rattle.std.proofs.Common.{◌∙◌}
use Rattle.wjs_base.specs.declared.values.Value.TheVariants as value
use Rattle.wjs_by_content.proofs.Growth.{text_grows}
use Rattle.wjs_by_content.proofs.Known.{text_known}
use Rattle.wjs_by_content.proofs.Same.{same_values}
use Rattle.wjs_loops.proofs.labels.same_label.Goals as goal

pub returns : goal.returns
returns c = λ t grows.
    let a = text_grows _ t grows c.args.a (text_known _ c.requires.table c.args.a c.requires.first) in
    let b = text_grows _ t grows c.args.b (text_known _ c.requires.table c.args.b c.requires.second) in
    c.same_value.ensures ∙ same_values t (value.Text c.args.a) (value.Text c.args.b) a.0 b.0
