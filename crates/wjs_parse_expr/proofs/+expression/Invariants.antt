use Rattle.std.proofs.Common.{◌+◌, ◌-◌, ◌*◌, ◌≤◌, length}
use Rattle.wjs_tree.specs.Children.{AreBelow, ItemsBelow, PropertiesBelow}
use Rattle.wjs_tree.specs.Shows.{Keeps}
use Rattle.wjs_parse_expr.specs.Steps.{BinaryStep, CommaStep}
use Rattle.wjs_parse_expr.specs.Answers.{from, EndsAt}
use Rattle.wjs_parse_expr.specs.Table.{MayBegin}
use Rattle.wjs_parse_expr.proofs.Growth.{Growing}
use Rattle.wjs_parse_expr.proofs.Gathering.{Gathered, GatheredItems}
use Rattle.wjs_parse_expr.proofs.Properties.{GatheredProperties}
use Rattle.wjs_parse_expr.proofs.Heads.{Chaining}
use Rattle.wjs_parse_expr.proofs.Targets.{Targeting, LastEnds}
use Rattle.wjs_parse_expr.proofs.+expression.Given as goal

abbrev pub decreases-expr::comma_expression : goal.decreases-expr::comma_expression
decreases-expr::comma_expression l = l.room * 40 + 39

abbrev pub decreases-expr::assignment_expression : goal.decreases-expr::assignment_expression
decreases-expr::assignment_expression l = l.room * 40 + 38

abbrev pub decreases-expr::after_comma : goal.decreases-expr::after_comma
decreases-expr::after_comma l = l.room * 40 + 20

abbrev pub decreases-expr::conditional_expression : goal.decreases-expr::conditional_expression
decreases-expr::conditional_expression l = l.room * 40 + 20

abbrev pub decreases-expr::assignment_to_target : goal.decreases-expr::assignment_to_target
decreases-expr::assignment_to_target l = l.room * 40 + 20

abbrev pub decreases-expr::binary_operation : goal.decreases-expr::binary_operation
decreases-expr::binary_operation l = l.room * 40 + 16

abbrev pub decreases-expr::unary_expression : goal.decreases-expr::unary_expression
decreases-expr::unary_expression l = l.room * 40 + 16

abbrev pub decreases-expr::prefix_expression : goal.decreases-expr::prefix_expression
decreases-expr::prefix_expression l = l.room * 40 + 15

abbrev pub decreases-expr::prefix_operand : goal.decreases-expr::prefix_operand
decreases-expr::prefix_operand l = l.room * 40 + 17

abbrev pub decreases-expr::postfix_expression : goal.decreases-expr::postfix_expression
decreases-expr::postfix_expression l = l.room * 40 + 15

abbrev pub decreases-member::target : goal.decreases-member::target
decreases-member::target l = l.room * 40 + 14

abbrev pub decreases-member::member_chain : goal.decreases-member::member_chain
decreases-member::member_chain l = l.room * 40 + 14

abbrev pub decreases-member::chain_head : goal.decreases-member::chain_head
decreases-member::chain_head l = l.room * 40 + 13

abbrev pub decreases-member::new_expression : goal.decreases-member::new_expression
decreases-member::new_expression l = l.room * 40 + 12

abbrev pub decreases-member::new_callee : goal.decreases-member::new_callee
decreases-member::new_callee l = l.room * 40 + 15

abbrev pub decreases-member::new_arguments : goal.decreases-member::new_arguments
decreases-member::new_arguments l = l.room * 40 + 11

abbrev pub decreases-member::chain_suffix : goal.decreases-member::chain_suffix
decreases-member::chain_suffix l = l.room * 40 + 12

abbrev pub decreases-member::index_access : goal.decreases-member::index_access
decreases-member::index_access l = l.room * 40 + 11

abbrev pub decreases-member::call_expression : goal.decreases-member::call_expression
decreases-member::call_expression l = l.room * 40 + 11

abbrev pub decreases-member::arguments : goal.decreases-member::arguments
decreases-member::arguments l = l.room * 40 + 9

abbrev pub decreases-primary::primary_expression : goal.decreases-primary::primary_expression
decreases-primary::primary_expression l = l.room * 40 + 11

abbrev pub decreases-primary::parenthesized_expression : goal.decreases-primary::parenthesized_expression
decreases-primary::parenthesized_expression l = l.room * 40 + 10

abbrev pub decreases-primary::array_literal : goal.decreases-primary::array_literal
decreases-primary::array_literal l = l.room * 40 + 10

abbrev pub decreases-primary::array_elements : goal.decreases-primary::array_elements
decreases-primary::array_elements l = l.room * 40 + 9

abbrev pub decreases-primary::object_literal : goal.decreases-primary::object_literal
decreases-primary::object_literal l = l.room * 40 + 10

abbrev pub decreases-primary::properties : goal.decreases-primary::properties
decreases-primary::properties l = l.room * 40 + 9

abbrev pub decreases-primary::property : goal.decreases-primary::property
decreases-primary::property l = l.room * 40 + 8

abbrev pub decreases-expr::binary_expression : goal.decreases-expr::binary_expression
decreases-expr::binary_expression l = l.room * 40 + (30 - l.level)

abbrev pub invariant-expr::comma_expression-loop-longer : goal.invariant-expr::comma_expression-loop-longer
invariant-expr::comma_expression-loop-longer l =
    Growing (from l.toks l.functions l.fn.nodes l.at) l.toks l.no_in l.room l.at 1 0 (CommaStep l.toks l.no_in l.room) l.nodes l.left × Keeps l.fn.nodes l.nodes × (EndsAt l.toks l.at l.nodes l.left)

abbrev pub decreases-expr::comma_expression-loop-longer : goal.decreases-expr::comma_expression-loop-longer
decreases-expr::comma_expression-loop-longer l = length l.toks - l.left.next

abbrev pub invariant-expr::binary_expression-levels : goal.invariant-expr::binary_expression-levels
invariant-expr::binary_expression-levels l =
    Growing (from l.toks l.functions l.fn.nodes l.at) l.toks l.no_in l.room l.at (l.reached + 1) l.reached (BinaryStep l.toks l.reached l.no_in l.room) l.nodes l.left × Keeps l.fn.nodes l.nodes × (EndsAt l.toks l.at l.nodes l.left) × (l.level ≤ l.reached) × (l.reached ≤ 12)

abbrev pub decreases-expr::binary_expression-levels : goal.decreases-expr::binary_expression-levels
decreases-expr::binary_expression-levels l = (length l.toks - l.left.next) + l.reached

abbrev pub invariant-member::member_chain-loop-longer : goal.invariant-member::member_chain-loop-longer
invariant-member::member_chain-loop-longer l =
    Chaining (from l.toks l.functions l.fn.nodes l.at) l.toks l.calls l.no_in l.room l.at l.nodes l.left × Keeps l.fn.nodes l.nodes × (EndsAt l.toks l.at l.nodes l.left)

abbrev pub decreases-member::member_chain-loop-longer : goal.decreases-member::member_chain-loop-longer
decreases-member::member_chain-loop-longer l = length l.toks - l.left.next

abbrev pub invariant-member::target-loop-longer : goal.invariant-member::target-loop-longer
invariant-member::target-loop-longer l =
    Targeting (from l.toks l.functions l.fn.nodes l.at) l.toks l.no_in l.room l.at l.nodes l.left l.last × Keeps l.fn.nodes l.nodes × (EndsAt l.toks l.at l.nodes l.left) × LastEnds l.toks l.at l.nodes l.last

abbrev pub decreases-member::target-loop-longer : goal.decreases-member::target-loop-longer
decreases-member::target-loop-longer l = length l.toks - l.left.next

abbrev pub invariant-member::arguments-loop-list : goal.invariant-member::arguments-loop-list
invariant-member::arguments-loop-list l =
    Gathered (from l.toks l.functions l.fn.nodes l.at) l.toks l.room l.at l.nodes l.list.items l.place × Keeps l.fn.nodes l.nodes × (l.at ≤ l.place) × AreBelow (length l.nodes) l.list.items × MayBegin l.toks l.place

abbrev pub decreases-member::arguments-loop-list : goal.decreases-member::arguments-loop-list
decreases-member::arguments-loop-list l = length l.toks - l.place

abbrev pub invariant-primary::array_elements-loop-alloc : goal.invariant-primary::array_elements-loop-alloc
invariant-primary::array_elements-loop-alloc l =
    GatheredItems (from l.toks l.functions l.fn.nodes l.at) l.toks l.room l.at l.nodes l.list.items l.tail l.place × Keeps l.fn.nodes l.nodes × (l.at ≤ l.place) × ItemsBelow (length l.nodes) l.list.items × MayBegin l.toks l.place

abbrev pub decreases-primary::array_elements-loop-alloc : goal.decreases-primary::array_elements-loop-alloc
decreases-primary::array_elements-loop-alloc l = length l.toks - l.place

abbrev pub invariant-primary::properties-loop-alloc : goal.invariant-primary::properties-loop-alloc
invariant-primary::properties-loop-alloc l =
    GatheredProperties (from l.toks l.functions l.fn.nodes l.at) l.toks l.room l.at l.nodes l.list.items l.behind l.place × Keeps l.fn.nodes l.nodes × (l.at ≤ l.place) × PropertiesBelow (length l.nodes) l.list.items

abbrev pub decreases-primary::properties-loop-alloc : goal.decreases-primary::properties-loop-alloc
decreases-primary::properties-loop-alloc l = length l.toks - l.place
