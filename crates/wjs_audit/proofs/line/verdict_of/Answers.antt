use Rattle.std.proofs.Common.{◌∷◌, ◌∙◌}
use Rattle.wjs_audit.proofs.Pieces.{at_end}
use Rattle.wjs_audit.proofs.line.verdict_of.Goals as goal

pub returns-then-is_word-2 : goal.returns-then-is_word-2
returns-then-is_word-2 c = λ parts are e.
    let t = c.in_ok-word.ensures.parts parts are e in
    let none = at_end c.in_ok-word.rest.now t.0 c.is_empty.result c.is_empty.ensures c.if-not-is_empty.false t.3 in
    let is = c.is_word-2.ensures.0 c.if-is_word-2.true in
    ((tt, tt), t.2 ∙ (λ i. is i ∷ none i))

pub returns-then-is_word-3 : goal.returns-then-is_word-3
returns-then-is_word-3 c = λ parts are e.
    let t = c.in_ok-word.ensures.parts parts are e in
    let none = at_end c.in_ok-word.rest.now t.0 c.is_empty.result c.is_empty.ensures c.if-not-is_empty.false t.3 in
    let is = c.is_word-3.ensures.0 c.if-is_word-3.true in
    ((tt, tt), t.2 ∙ (λ i. is i ∷ none i))
