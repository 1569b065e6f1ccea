use Rattle.std.proofs.Common.{◌≡◌, ◌-◌, map, ◌++◌, drop, length}
use Rattle.wjs_props.specs.declared.order.Spelled.{Spelled}
use Rattle.wjs_props.specs.Spelled.{IsSpelled}
use Rattle.wjs_by_content.specs.Renamed.{Holds}
use Rattle.wjs_props.proofs.order.spell_all.Given as goal

abbrev pub invariant-names : goal.invariant-names
invariant-names l = record {
  names : map (λ (s : Spelled). s.name) l.all.items ++ drop l.place l.names ≡ l.names;
  units : Holds (IsSpelled l.texts) l.all.items;
}

abbrev pub decreases-names : goal.decreases-names
decreases-names l = length l.names - l.place
