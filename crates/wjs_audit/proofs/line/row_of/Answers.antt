use Rattle.std.proofs.Common.{List, ℕ, ◌∷◌, [], get_or, ap, ◌∙◌}
use Rattle.wjs_audit.proofs.Pieces.{at_end}
use Rattle.wjs_audit.proofs.line.row_of.Goals as goal

pub returns : goal.returns
returns c = λ parts are e.
    let world = c.in_ok-world.world.now in
    let object = c.in_ok-world.object.now in
    let name = c.in_ok-name.name.now in
    let content = c.in_ok-name.content.now in
    let t = c.in_ok-world.ensures parts are e in
    let u = c.in_ok-name.ensures t.0 t.1 t.3 in
    let none = at_end c.in_ok-name.rest.now u.0 c.is_empty.result c.is_empty.ensures c.if-not-is_empty.false u.3 in
    let w = c.in_ok-world-2.ensures in
    let s = c.in_ok-slot.ensures in
    let x = c.in_ok-content.ensures in
    let o = ap (λ (ps : List (List ℕ)). get_or ps 0 []) s.1 in
    let n = ap (λ (ps : List (List ℕ)). get_or ps 1 []) s.1 in (
      (w.0, s.0, x.0),
      t.2 ∙ ap (λ (ps : List (List ℕ)). world ∷ object ∷ ps) (u.2 ∙ ap (λ (ps : List (List ℕ)). name ∷ content ∷ ps) none)
          ∙ (λ i. w.1 i ∷ o i ∷ n i ∷ x.1 i ∷ []),
    )
