use Rattle.std.proofs.Common.{sym, ap, ◌∙◌}
use Rattle.wjs_base.specs.declared.values.Value.{Value}
use Rattle.wjs_by_content.specs.Tables.{value_in}
use Rattle.wjs_by_content.specs.Conversions.{primitive_text}
use Rattle.wjs_step_common.proofs.Indices.{index_text}
use Rattle.wjs_step_common.proofs.texts.index_of.Goals as goal

pub returns-in-Some : goal.returns-in-Some
returns-in-Some c =
    let x = c.in-Number.number in
    let at = index_text x.number c.in-Some.n x.in_range (sym c.get.ensures ∙ c.in-Some.is) c.if-n-ge0.true c.if-n-lt4294967295.true in
    (at.0, λ t. ap (λ (v : Value). primitive_text (value_in t v)) c.in-Number.is ∙ at.1)
