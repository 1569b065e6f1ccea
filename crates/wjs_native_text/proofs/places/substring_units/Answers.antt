use Rattle.std.proofs.Common.{length, sym, ap, ◌∙◌, arith}
use Rattle.std.specs.Prelude.{map}
use Rattle.wjs_by_content.specs.Tables.{value_in}
use Rattle.wjs_by_content.specs.Values.{String}
use Rattle.wjs_meaning.specs.Deeds.{give}
use Rattle.wjs_meaning.specs.NativesOfObjects.{value_at, whole_at}
use Rattle.wjs_meaning.specs.NativesOfTexts as line
use Rattle.wjs_heap_steps.proofs.Composing.{if_ok}
use Rattle.wjs_native_text.proofs.Lengths.{substring_short}
use Rattle.wjs_native_text.proofs.places.substring_units.Goals as goal

pub returns-clause-short : goal.returns-clause-short
returns-clause-short g c =
    if_ok _ _ c.copied.result
    (λ units is.
    let t = c.args.config.now.heap.texts in
    let u = c.text_of-text.result.now in
    let n = ap length (is ∙ sym (c.substring.ensures t)) in
    omega (arith, n, substring_short u c.whole_at.result.number (value_in t c.value_at.result), c.text_of-text.ensures.short))
    c.copied.ensures

pub returns-clause-units : goal.returns-clause-units
returns-clause-units g c =
    if_ok _ _ c.copied.result
    (λ units is t more env.
    let vs = map (value_in t) c.args.args.now in
    let u = c.text_of-text.result.now in
    sym (ap (λ z. give (String z)) (is ∙ sym (c.substring.ensures t)
    ∙ ap (λ v. line.substring u c.whole_at.result.number v) (sym (c.value_at.ensures.means t))
    ∙ ap (λ w. line.substring u w (value_at vs 1)) (sym (c.whole_at.ensures t))
    ∙ ap (λ x. line.substring x (whole_at vs 0) (value_at vs 1)) (sym (c.text_of-text.ensures.text t more)))))
    c.copied.ensures
