use Rattle.std.proofs.Common.{sym, ap, ◌∙◌}
use Rattle.wjs_arena.specs.Listed.{names_in}
use Rattle.wjs_arena.proofs.listed.Listed.is_empty.Goals as goal

pub returns-in-Names : goal.returns-in-Names
returns-in-Names c = λ t. sym c.self.view_is ∙ ap names_in c.in-Names.is ∙ c.is_empty.ensures t
