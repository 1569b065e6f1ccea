use Rattle.std.proofs.Common.{◌∙◌, ◌∷◌, []}
use Rattle.wjs_base.specs.Order.{name_total}
use Rattle.wjs_names.proofs.Shorts.{find_first, find_next}
use Rattle.wjs_names.proofs.short.value_in_two.Goals as goal

pub returns-in-Some : goal.returns-in-Some
returns-in-Some g c = find_first name_total c.args.name c.args.first.now (c.args.second.now ∷ []) c.in-Some.value.now c.in-Some.ensures

pub returns-in-None : goal.returns-in-None
returns-in-None g c = c.value_in-in-None.ensures ∙ find_next name_total c.args.name c.args.first.now (c.args.second.now ∷ []) c.in-None.ensures
