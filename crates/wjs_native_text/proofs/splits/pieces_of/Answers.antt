use Rattle.std.proofs.Common.{[], ◌∷◌, sym, ap, ◌∙◌}
use Rattle.wjs_by_content.specs.Tables.{value_in}
use Rattle.wjs_by_content.specs.Values.{String}
use Rattle.wjs_meaning.specs.NativesOfObjects.{text_of}
use Rattle.wjs_meaning.specs.NativesOfTexts as line
use Rattle.wjs_heap_steps.proofs.Composing.{if_ok}
use Rattle.wjs_strings.specs.Pieces.{texts_of, up_to}
use Rattle.wjs_native_text.proofs.Limits.{is_units, parts_whole}
use Rattle.wjs_native_text.proofs.splits.pieces_of.Goals as goal

pub returns-in-Text : goal.returns-in-Text
returns-in-Text g c =
    if_ok _ _ c.split.result
    (λ p h t more.
    let x = text_of (value_in t c.args.text) in
    let ex = c.text_of-units.ensures.text t more in
    let es = ap (λ s. String s) (sym (c.text_of.ensures.text t more)) ∙ is_units t c.args.separator c.in-Text.field-0 c.in-Text.is in
    ap (λ u. texts_of u p.items) ex ∙ h ∙ ap (λ u. up_to c.args.limit (line.parts_of u (String c.text_of.result.now))) (sym ex) ∙ ap (λ v. up_to c.args.limit (line.parts_of x v)) es)
    c.split.ensures

pub returns : goal.returns
returns g c =
    if_ok _ _ c.whole_piece.result
    (λ p h t more.
    let x = text_of (value_in t c.args.text) in
    let ex = c.text_of-units.ensures.text t more in
    ap (λ u. texts_of u p.items) ex ∙ h ∙ ap (λ u. up_to c.args.limit (String u ∷ [])) (sym ex) ∙ ap (up_to c.args.limit) (sym (parts_whole t x c.args.separator c.in_default.not-Text)))
    c.whole_piece.ensures
