use Rattle.std.proofs.Common.{◌∙◌, ◌++◌, ◌∷◌, [], ap}
use Rattle.wjs_names.proofs.kept.four_listed.Goals as goal

pub returns : goal.returns
returns g c =
    let rows = c.rows-rows.result in
    c.in_ok-put_last-4.ensures
    ∙ ap (λ xs. xs ++ rows.fourth ∷ []) (c.in_ok-put_last-3.ensures
    ∙ ap (λ xs. xs ++ rows.third ∷ []) (c.in_ok-put_last-2.ensures
    ∙ ap (λ xs. xs ++ rows.second ∷ []) (c.in_ok-put_last.ensures ∙ ap (λ xs. xs ++ rows.first ∷ []) c.in_ok-few.ensures.items)))
    ∙ c.rows-rows.ensures
