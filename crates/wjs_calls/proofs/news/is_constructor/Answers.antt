use Rattle.std.proofs.Common.{ap, ◌∙◌}
use Rattle.std.specs.Prelude.{is_some}
use Rattle.wjs_meaning.specs.Table.{Row}
use Rattle.wjs_calls.proofs.news.is_constructor.Goals as goal

pub returns : goal.returns
returns c = c.is_some.ensures ∙ ap (λ (r : Row). is_some r.prototype) c.row_of.ensures
