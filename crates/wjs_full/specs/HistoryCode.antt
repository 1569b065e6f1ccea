-- `Histories` is stored as the pair of its maps.
use Rattle.std.specs.Prelude.{ℕ, List, refl}
use Rattle.std.specs.Coded.{Coded, code_by, coded×, coded_ℕ, coded_list}
use Rattle.std.specs.FinMap as map
use Rattle.std.specs.FinMap.{FinMap}
use Rattle.wjs_base.specs.declared.ids.WorldId.{WorldId}
use Rattle.wjs_base.specs.Order.{world_cmp}
use Rattle.wjs_base.specs.Codes.{coded_world}
use Rattle.wjs_full.specs.History.{Histories}

abbrev pub histories_code : Coded Histories
histories_code =
    code_by (FinMap world_cmp WorldId × FinMap world_cmp (List ℕ)) (coded× (map.code coded_world coded_world) (map.code coded_world (coded_list coded_ℕ))) (λ H. (H.parents, H.places)) (λ p. record { parents = p.0; places = p.1 }) (λ _. refl)
