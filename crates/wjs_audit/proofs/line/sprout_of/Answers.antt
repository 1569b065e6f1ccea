use Rattle.std.proofs.Common.{List, ℕ, ◌∷◌, [], ap, ◌∙◌}
use Rattle.std.specs.Prelude.{codes}
use Rattle.wjs_audit.proofs.Pieces.{at_end}
use Rattle.wjs_audit.proofs.line.sprout_of.Goals as goal

pub returns : goal.returns
returns c = λ parts are e.
    let world = c.in_ok-world.world.now in
    let owner = c.in_ok-world.owner.now in
    let kind = c.in_ok-kind.kind.now in
    let child = c.in_ok-kind.child.now in
    let t = c.in_ok-world.ensures parts are e in
    let u = c.in_ok-kind.ensures t.0 t.1 t.3 in
    let none = at_end c.in_ok-kind.rest.now u.0 c.is_empty.result c.is_empty.ensures c.if-not-is_empty.false u.3 in
    let v = c.in_ok-world-2.ensures in
    let o = c.in_ok-owner.ensures in
    let k = c.in_ok-strict.ensures in
    let x = c.in_ok-child.ensures in (
      ((v.0, o.0, x.0), tt, tt),
      ap (λ (ps : List (List ℕ)). codes "sprout" ∷ ps)
          (t.2 ∙ ap (λ (ps : List (List ℕ)). world ∷ owner ∷ ps) (u.2 ∙ ap (λ (ps : List (List ℕ)). kind ∷ child ∷ ps) none)
          ∙ (λ i. v.1 i ∷ o.1 i ∷ k.1 i ∷ x.1 i ∷ [])),
    )
