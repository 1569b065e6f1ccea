use Rattle.std.proofs.Common.{Some, sym, ap, ◌∙◌}
use Rattle.wjs_by_content.specs.Tables.{text_in, content_in}
use Rattle.wjs_by_content.specs.Values.{String}
use Rattle.wjs_meaning.specs.NativesOfObjects.{fault_text, with_message}
use Rattle.wjs_heap_steps.proofs.Composing.{if_ok}
use Rattle.wjs_native_core.proofs.Looking.{found_is, no_second}
use Rattle.wjs_native_core.proofs.errors.units_under.Goals as goal

pub returns-in-Some : goal.returns-in-Some
returns-in-Some g c =
    if_ok _ _ c.fault_text.result
    (λ units h t grows.
    ap (λ b. fault_text (Some (String (text_in t c.args.name))) b) (found_is (content_in t c.args.message) _ (c.in-Some.ensures.is t))
    ∙ ap (λ u. with_message u (text_in t c.in-Some.message)) (c.units_of.ensures.text t grows)
    ∙ ap (λ u. with_message c.units_of.result.now u) (c.units_of-in-Some.ensures.text t grows)
    ∙ sym h)
    c.fault_text.ensures

pub returns-in-None : goal.returns-in-None
returns-in-None g c =
    if_ok _ _ c.fault_text-in-None.result
    (λ units h t grows. no_second (Some (String (text_in t c.args.name))) (content_in t c.args.message) (c.in-None.ensures.is t) ∙ sym (h ∙ c.class_name.ensures))
    c.fault_text-in-None.ensures
