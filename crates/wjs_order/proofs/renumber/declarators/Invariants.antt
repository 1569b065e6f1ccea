use Rattle.std.proofs.Common.{◌≡◌, map, length, take, drop}
use Rattle.wjs_tree.specs.Children.{DeclaratorsBelow}
use Rattle.wjs_order.specs.Renumbered.{number_in, new_declarator}
use Rattle.wjs_order.proofs.renumber.declarators.Given as goal

abbrev pub invariant-loop-declarator : goal.invariant-loop-declarator
invariant-loop-declarator l = (l.made.items ≡ map (new_declarator (number_in l.to)) (take l.declarator-index l.declarators)) × DeclaratorsBelow (length l.to) (drop l.declarator-index l.declarators)
