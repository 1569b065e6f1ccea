use Rattle.std.proofs.Common.{length, sym, ap, ◌∙◌, arith}
use Rattle.wjs_by_content.specs.Tables.{value_in}
use Rattle.wjs_meaning.specs.NativesOfObjects.{text_of}
use Rattle.wjs_meaning.specs.NativesOfTexts as line
use Rattle.wjs_native_text.proofs.Lengths.{part_short}
use Rattle.wjs_native_text.proofs.Interning.{quiet, said_text}
use Rattle.wjs_native_text.proofs.splits.intern_piece.Goals as goal

pub intern-requires-clause-short : goal.intern-requires-clause-short
intern-requires-clause-short g c =
    let n = ap length (c.as_slice.ensures.value ∙ c.in_ok-units.ensures ∙ c.part_of.ensures) in
    omega (arith, n, part_short c.text_of.result.now c.args.piece.start c.args.piece.end, c.text_of.ensures.short)

pub returns-clause-does : goal.returns-clause-does
returns-clause-does g c = quiet g.S.WorldStore.meaning _ _ c.args.config.now c.intern.new.config c.intern.result c.intern.ensures.does

pub returns-clause-text : goal.returns-clause-text
returns-clause-text g c =
    let piece = c.args.piece in
    said_text g.S.WorldStore.meaning c.args.config.now c.intern.new.config c.as_slice.result.now (λ t. line.part_of (text_of (value_in t c.args.text)) piece.start piece.end) c.intern.result c.intern.ensures.later c.intern.ensures.text
    (λ t more. c.as_slice.ensures.value ∙ c.in_ok-units.ensures ∙ c.part_of.ensures ∙ ap (λ u. line.part_of u piece.start piece.end) (sym (c.text_of.ensures.text t more)))
