use Rattle.std.proofs.Common.{sym, ap, ◌∙◌}
use Rattle.wjs_arena.specs.AtName.{at_name}
use Rattle.wjs_arena.specs.Listed.{names_in}
use Rattle.wjs_arena.proofs.listed.Listed.get.Goals as goal

pub returns-in-Names : goal.returns-in-Names
returns-in-Names c = c.get.ensures ∙ ap (λ f. at_name (names_in f) c.args.name) (sym c.in-Names.is) ∙ ap (λ l. at_name l c.args.name) c.self.view_is

pub returns-in-Hidden : goal.returns-in-Hidden
returns-in-Hidden c = c.get-in-Hidden.ensures ∙ ap (λ f. at_name (names_in f) c.args.name) (sym c.in-Hidden.is) ∙ ap (λ l. at_name l c.args.name) c.self.view_is
