use Rattle.std.proofs.Common.{sym, ap, ◌∙◌}
use Rattle.wjs_by_content.specs.Tables.{content_in}
use Rattle.wjs_meaning.specs.NativesOfObjects.{fault_text}
use Rattle.wjs_heap_steps.proofs.Composing.{if_ok}
use Rattle.wjs_native_core.proofs.Looking.{found_is, no_name}
use Rattle.wjs_native_core.proofs.errors.fault_units.Goals as goal

pub returns-in-Some : goal.returns-in-Some
returns-in-Some g c =
    if_ok _ _ c.units_under.result
    (λ units h t grows. ap (λ a. fault_text a (content_in t c.args.message)) (found_is (content_in t c.args.name) _ (c.in-Some.ensures.is t)) ∙ h t grows)
    c.units_under.ensures

pub returns-in-None : goal.returns-in-None
returns-in-None g c =
    if_ok _ _ c.fault_text.result
    (λ units h t grows. no_name (content_in t c.args.name) (content_in t c.args.message) (c.in-None.ensures.is t) ∙ sym (h ∙ c.class_name.ensures))
    c.fault_text.ensures
