use Rattle.std.proofs.Common.{◌≤◌, List, length, sym, ap, ◌∙◌, subst, arith}
use Rattle.std.specs.Prelude.{ℕ}
use Rattle.wjs_base.specs.declared.values.Value.{Value}
use Rattle.wjs_by_content.specs.Conversions.{primitive_text}
use Rattle.wjs_by_content.specs.Tables.{value_in}
use Rattle.wjs_step_common.proofs.Lengths.{text_short}
use Rattle.wjs_step_common.proofs.texts.most_units.Goals as goal

pub returns-in-Text-clause-most : goal.returns-in-Text-clause-most
returns-in-Text-clause-most g c = λ t grows.
    let long : ℕ = length c.units_of.result.now in
    let is = ap (λ (v : Value). primitive_text (value_in t v)) c.in-Text.is ∙ c.units_of.ensures.text t grows in
    subst (λ (us : List ℕ). length us ≤ long) (sym is) (omega arith)

pub returns-in_default-clause-most : goal.returns-in_default-clause-most
returns-in_default-clause-most g c = λ t grows. text_short t c.args.value c.in_default.not-Text
