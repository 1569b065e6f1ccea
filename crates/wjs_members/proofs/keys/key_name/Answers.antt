use Rattle.std.proofs.Common.{refl, sym, ◌∙◌}
use Rattle.wjs_step_common.proofs.Following.{does_told, does_as}
use Rattle.wjs_members.proofs.keys.key_name.Goals as goal

pub returns-clause-does : goal.returns-clause-does
returns-clause-does g c = does_as g.S.WorldStore.meaning _ _ _ _ _ (does_told g.S.WorldStore.meaning _ _ _ _ _ c.in_ok-id.ensures.does (λ t grows. c.name_of.ensures.name t grows)) (λ t grows. c.as_slice.ensures.value ∙ c.in_ok-units.ensures ∙ c.spelling.ensures)
