use Rattle.std.proofs.Common.{◌≡◌, ◌+◌, List, [], ◌∷◌, ◌++◌, sym, ap, ◌∙◌, subst, rules}
use Rattle.wjs_by_content.specs.Tables.{value_in}
use Rattle.wjs_meaning.specs.NativesOfObjects.{text_of}
use Rattle.std.proofs.lemmas.List.{take_all}
use Rattle.wjs_base.specs.declared.values.Value.{Value as NumberedValue}
use Rattle.wjs_base.specs.declared.values.Value.TheVariants as values
use Rattle.wjs_strings.specs.Pieces.{texts_of}
use Rattle.wjs_native_text.proofs.Interning.{Interned, interned_none, interned_more}
use Rattle.wjs_native_text.proofs.splits.parts_of.Goals as goal

pub loop-piece-init : goal.loop-piece-init
loop-piece-init g c = subst (λ (l : List NumberedValue). Interned g.S.WorldStore.meaning c.args.text c.args.pieces.now c.args.config.now c.args.config.now l 0) (sym c.new-parts.ensures.items) (interned_none g.S.WorldStore.meaning c.args.text c.args.pieces.now c.args.config.now c.requires.base)

pub intern_piece-requires-clause-base : goal.intern_piece-requires-clause-base
intern_piece-requires-clause-base g c = c.loop-piece.invariant.later.base

pub intern_piece-requires-clause-text : goal.intern_piece-requires-clause-text
intern_piece-requires-clause-text g c = c.loop-piece.invariant.later.values c.args.text c.requires.text

pub loop-piece-preserved : goal.loop-piece-preserved
loop-piece-preserved g c =
    let m = g.S.WorldStore.meaning in
    let old = c.args.config.now in
    let now : c.push.new.self.items ≡ c.loop-piece.parts.items ++ values.Text c.in_ok-part.part ∷ [] = search rules in
    subst (λ (l : List NumberedValue). Interned m c.args.text c.args.pieces.now old c.intern_piece.new.config l (c.loop-piece.piece-index + 1)) (sym now)
    (interned_more m c.args.text c.args.pieces.now old c.loop-piece.config c.intern_piece.new.config c.loop-piece.parts.items c.loop-piece.piece-index _ c.in_ok-part.part c.loop-piece.invariant c.loop-piece-test.true
    c.in_ok-part.ensures.does c.in_ok-part.ensures.later c.in_ok-part.ensures.found c.in_ok-part.ensures.text)

pub returns-clause-does : goal.returns-clause-does
returns-clause-does g c = c.loop-piece.invariant.does

pub returns-clause-later : goal.returns-clause-later
returns-clause-later g c = c.loop-piece.invariant.later

pub returns-clause-found : goal.returns-clause-found
returns-clause-found g c = c.loop-piece.invariant.found

pub returns-clause-parts : goal.returns-clause-parts
returns-clause-parts g c = λ t more. c.loop-piece.invariant.parts_are t more ∙ ap (texts_of (text_of (value_in t c.args.text))) (take_all c.loop-piece.piece-index c.args.pieces.now c.loop-piece-test.false)
