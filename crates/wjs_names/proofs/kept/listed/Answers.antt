use Rattle.std.proofs.Common.{◌∙◌, ◌++◌, ◌∷◌, [], ap, sym}
use Rattle.wjs_names.specs.Kept.{short_rows}
use Rattle.wjs_names.proofs.kept.listed.Goals as goal

pub returns-in-Zero : goal.returns-in-Zero
returns-in-Zero g c = c.in_ok-few.ensures.items ∙ ap short_rows (sym c.in-Zero.is)

pub returns-in_ok-put_last-in-One : goal.returns-in_ok-put_last-in-One
returns-in_ok-put_last-in-One g c =
    c.in_ok-put_last-in-One.ensures
    ∙ ap (λ xs. xs ++ c.in-One.row ∷ []) c.in_ok-few.ensures.items
    ∙ ap short_rows (sym c.in-One.is)

pub returns-in_ok-put_last-in-Two-2 : goal.returns-in_ok-put_last-in-Two-2
returns-in_ok-put_last-in-Two-2 g c =
    c.in_ok-put_last-in-Two-2.ensures
    ∙ ap (λ xs. xs ++ c.in-Two.second ∷ []) (c.in_ok-put_last-in-Two.ensures ∙ ap (λ xs. xs ++ c.in-Two.first ∷ []) c.in_ok-few.ensures.items)
    ∙ ap short_rows (sym c.in-Two.is)

pub returns-in_ok-put_last-in-Three-3 : goal.returns-in_ok-put_last-in-Three-3
returns-in_ok-put_last-in-Three-3 g c =
    c.in_ok-put_last-in-Three-3.ensures
    ∙ ap (λ xs. xs ++ c.in-Three.third ∷ []) (c.in_ok-put_last-in-Three-2.ensures
    ∙ ap (λ xs. xs ++ c.in-Three.second ∷ []) (c.in_ok-put_last-in-Three.ensures ∙ ap (λ xs. xs ++ c.in-Three.first ∷ []) c.in_ok-few.ensures.items))
    ∙ ap short_rows (sym c.in-Three.is)
