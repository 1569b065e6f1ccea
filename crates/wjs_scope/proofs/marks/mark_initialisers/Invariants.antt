use Rattle.std.proofs.Common.{◌≡◌, length, drop}
use Rattle.wjs_tree.specs.Children.{DeclaratorsBelow}
use Rattle.wjs_scope.specs.Nesting.{initialisers}
use Rattle.wjs_scope.specs.Marks.{marked}
use Rattle.wjs_scope.proofs.marks.mark_initialisers.Given as goal

abbrev pub invariant-loop-declarator : goal.invariant-loop-declarator
invariant-loop-declarator l =
    (marked l.initial.table l.at (initialisers l.list) ≡ marked l.table l.at (initialisers (drop l.declarator-index l.list))) × DeclaratorsBelow (length l.initial.table) (drop l.declarator-index l.list) × (length l.table ≡ length l.initial.table)
