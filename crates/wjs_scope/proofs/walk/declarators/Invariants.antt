use Rattle.std.proofs.Common.{◌≡◌, map, drop}
use Rattle.wjs_tree.specs.declared.node.Declarator.{Declarator}
use Rattle.wjs_scope.specs.Declarations.{with_names}
use Rattle.wjs_scope.proofs.walk.declarators.Given as goal

abbrev pub invariant-loop-declarator : goal.invariant-loop-declarator
invariant-loop-declarator l = with_names l.initial.vars (map (λ (d : Declarator). d.name) l.list) ≡ with_names l.vars (map (λ (d : Declarator). d.name) (drop l.declarator-index l.list))
