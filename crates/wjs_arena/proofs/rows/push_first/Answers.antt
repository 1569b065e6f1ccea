use Rattle.std.proofs.Common.{◌++◌, ◌∷◌, [], ap, ◌∙◌}
use Rattle.wjs_arena.proofs.rows.push_first.Goals as goal

pub returns-clause-ok : goal.returns-clause-ok
returns-clause-ok c = (c.push.new.self, c.in_ok-push.ensures.items ∙ ap (λ es. es ++ c.args.entry ∷ []) c.new-rows.ensures.items, λ q. c.in_ok-insert.ensures.updates.0 q)
