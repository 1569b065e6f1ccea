use Rattle.std.proofs.Common.{◌≡◌, map, ◌++◌, drop}
use Rattle.wjs_props.specs.declared.order.Spelled.{Spelled}
use Rattle.wjs_props.proofs.order.names_of.Given as goal

abbrev pub invariant-loop-each : goal.invariant-loop-each
invariant-loop-each l = l.names ++ map (λ (s : Spelled). s.name) (drop l.each-index l.all) ≡ map (λ (s : Spelled). s.name) l.all
