use Rattle.std.proofs.Common.{◌-◌, ◌<◌, ◌≤◌, [], ◌∷◌, ◌++◌, length}
use Rattle.wjs_tree.specs.Children.{OptionBelow, DeclaratorsBelow}
use Rattle.wjs_tree.specs.Shows.{Keeps}
use Rattle.wjs_parse_simple.proofs.Declaring.{Declaring}
use Rattle.wjs_parse_simple.specs.Made.{VariablesMade}
use Rattle.wjs_parse_simple.proofs.variables.variable_declarations.Given as goal

abbrev pub invariant-loop-alloc : goal.invariant-loop-alloc
invariant-loop-alloc l =
    Declaring l.toks l.no_in l.room l.at l.nodes l.list.items l.last × Keeps l.fn.nodes l.nodes × (l.at < l.last.next) × (l.last.next ≤ length l.toks)
    × OptionBelow (length l.nodes) l.last.declarator.value × DeclaratorsBelow (length l.nodes) l.list.items
    × VariablesMade l.functions l.fn.nodes l.nodes l.at (l.list.items ++ l.last.declarator ∷ []) l.last.next

abbrev pub decreases-loop-alloc : goal.decreases-loop-alloc
decreases-loop-alloc l = length l.toks - l.last.next
