use Rattle.std.proofs.Common.{List, ℕ, ◌∷◌, ap, ◌∙◌}
use Rattle.std.specs.Prelude.{codes}
use Rattle.wjs_audit.proofs.Pieces.{at_end}
use Rattle.wjs_audit.proofs.line.difference_of.Goals as goal

pub returns : goal.returns
returns c = λ parts are e.
    let object = c.in_ok-object.object.now in
    let name = c.in_ok-object.name.now in
    let t = c.in_ok-object.ensures parts are e in
    let none = at_end c.in_ok-object.rest.now t.0 c.is_empty.result c.is_empty.ensures c.if-not-is_empty.false t.3 in
    let m = c.in_ok-slot.ensures in (
      ((m.0.0, m.0.1.0), m.0.1.1),
      ap (λ (ps : List (List ℕ)). codes "differs" ∷ ps) (t.2 ∙ ap (λ (ps : List (List ℕ)). object ∷ name ∷ ps) none ∙ m.1),
    )
