use Rattle.std.proofs.Common.{sym, ◌∙◌}
use Rattle.wjs_arena.proofs.Packing.{none_in}
use Rattle.wjs_arena.proofs.under.Under.is_empty.Goals as goal

pub returns : goal.returns
returns g c = λ t. sym c.as_slice.ensures ∙ none_in c.as_slice.result.now (sym c.is_empty.ensures ∙ t)
