use Rattle.std.proofs.Common.{◌++◌, ◌∷◌, [], ap, ◌∙◌}
use Rattle.wjs_full.specs.Rows.{worlds_in}
use Rattle.wjs_full.proofs.Tables.{worlds_one}
use Rattle.wjs_full.proofs.table.new.Goals as goal

pub returns-clause-worlds : goal.returns-clause-worlds
returns-clause-worlds c =
    let t = c.new-table.result.items in
    ap worlds_in (c.in_ok-push.ensures.items ∙ ap (λ s. s ++ c.first.result ∷ []) c.new-table.ensures.items) ∙ worlds_one c.first.result ∙ c.first.ensures
