use Rattle.std.proofs.Common.{length, sym, ap, ◌∙◌}
use Rattle.std.specs.Prelude.{map}
use Rattle.wjs_by_content.specs.Tables.{value_in}
use Rattle.wjs_meaning.specs.Deeds.{give}
use Rattle.wjs_meaning.specs.NativesOfObjects.{text_at, whole_at}
use Rattle.wjs_meaning.specs.NativesOfTexts as line
use Rattle.wjs_heap_steps.proofs.Composing.{if_ok}
use Rattle.wjs_native_text.proofs.places.first_place.Goals as goal

pub returns : goal.returns
returns g c =
    if_ok _ _ c.place_value.result
    (λ number is t more env.
    let vs = map (value_in t) c.args.args.now in
    let u = c.text_of-text.result.now in
    let p = text_at vs 0 in
    sym (ap give (sym is)
    ∙ ap (λ z. give (line.place_value z)) c.in_ok-place.ensures
    ∙ ap (λ k. give (line.place_value (line.first_from u c.text_at.result.now k))) c.place_of-from.ensures.is
    ∙ ap (λ w. give (line.place_value (line.first_from u c.text_at.result.now (line.kept_within (line.or_zero w) (length u))))) (sym (c.whole_at.ensures t))
    ∙ ap (λ s. give (line.place_value (line.first_from u s (line.kept_within (line.or_zero (whole_at vs 1)) (length u))))) (sym (c.text_at.ensures.text t more))
    ∙ ap (λ x. give (line.place_value (line.first_from x p (line.kept_within (line.or_zero (whole_at vs 1)) (length x))))) (sym (c.text_of-text.ensures.text t more))))
    c.place_value.ensures
