use Rattle.std.proofs.Common.{sym, ap, ◌∙◌}
use Rattle.wjs_arena.specs.Listed.{names_in}
use Rattle.wjs_arena.proofs.listed.Listed.hidden.Goals as goal

pub returns-in-Hidden : goal.returns-in-Hidden
returns-in-Hidden c = sym c.self.view_is ∙ ap names_in c.in-Hidden.is
