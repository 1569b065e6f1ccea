use Rattle.std.proofs.Common.{◌≡◌, ◌+◌, ◌-◌, ◌*◌, []}
use Rattle.std.specs.Prelude.{All}
use Rattle.wjs_meaning.specs.Deeds.{Again}
use Rattle.wjs_model.specs.Soundness.{HasValue}
use Rattle.wjs_frames.specs.Following.{Later}
use Rattle.wjs_effects.specs.declared.elements.Sequence.TheVariants as kinds
use Rattle.wjs_stopping.specs.Evaluating.{Leaves}
use Rattle.wjs_direct_lines.specs.Deeds.{goal_here, line_here}
use Rattle.wjs_direct_lines.specs.Variables.{variables_left}
use Rattle.wjs_direct_lines.proofs.Calling.{values_left}
use Rattle.wjs_direct_lines.proofs.Elements.{rest_from}
use Rattle.wjs_direct.specs.Literals.{items_left, pairs_left}
use Rattle.wjs_direct.specs.Switches.{cases_left, statements_left}
use Rattle.wjs_direct.specs.Visits.{HoldsVisits, visits_left}
use Rattle.wjs_direct_lines.proofs.Constructing.{news_left}
use Rattle.wjs_direct.proofs.+direct.Given as goal

-- how much room is left, and which function hands it on to which
abbrev pub decreases-expressions::value : goal.decreases-expressions::value
decreases-expressions::value g l = l.room * 32 + 0

abbrev pub decreases-expressions::form : goal.decreases-expressions::form
decreases-expressions::form g l = l.room * 32 + 31

abbrev pub decreases-expressions::binary : goal.decreases-expressions::binary
decreases-expressions::binary g l = l.room * 32 + 20

abbrev pub decreases-expressions::and_right : goal.decreases-expressions::and_right
decreases-expressions::and_right g l = l.room * 32 + 5

abbrev pub decreases-expressions::or_right : goal.decreases-expressions::or_right
decreases-expressions::or_right g l = l.room * 32 + 5

abbrev pub decreases-expressions::both : goal.decreases-expressions::both
decreases-expressions::both g l = l.room * 32 + 5

abbrev pub decreases-targets::target : goal.decreases-targets::target
decreases-targets::target g l = l.room * 32 + 1

abbrev pub decreases-targets::member : goal.decreases-targets::member
decreases-targets::member g l = l.room * 32 + 31

abbrev pub decreases-targets::dot : goal.decreases-targets::dot
decreases-targets::dot g l = l.room * 32 + 30

abbrev pub decreases-targets::at : goal.decreases-targets::at
decreases-targets::at g l = l.room * 32 + 30

abbrev pub decreases-targets::index_of_base : goal.decreases-targets::index_of_base
decreases-targets::index_of_base g l = l.room * 32 + 20

abbrev pub decreases-calls::call : goal.decreases-calls::call
decreases-calls::call g l = l.room * 32 + 30

abbrev pub decreases-calls::target_called : goal.decreases-calls::target_called
decreases-calls::target_called g l = l.room * 32 + 29

abbrev pub decreases-calls::value_called : goal.decreases-calls::value_called
decreases-calls::value_called g l = l.room * 32 + 29

abbrev pub decreases-calls::callee_given : goal.decreases-calls::callee_given
decreases-calls::callee_given g l = l.room * 32 + 28

abbrev pub decreases-calls::callee_read : goal.decreases-calls::callee_read
decreases-calls::callee_read g l = l.room * 32 + 27

abbrev pub decreases-calls::evaluate_arguments : goal.decreases-calls::evaluate_arguments
decreases-calls::evaluate_arguments g l = l.room * 32 + 26

abbrev pub decreases-calls::called : goal.decreases-calls::called
decreases-calls::called g l = l.room * 32 + 25

abbrev pub decreases-calls::script_called : goal.decreases-calls::script_called
decreases-calls::script_called g l = l.room * 32 + 24

abbrev pub decreases-calls::body_entered : goal.decreases-calls::body_entered
decreases-calls::body_entered g l = l.room * 32 + 23

abbrev pub decreases-bodies::body_called : goal.decreases-bodies::body_called
decreases-bodies::body_called g l = l.room * 32 + 22

abbrev pub decreases-bodies::body_inside : goal.decreases-bodies::body_inside
decreases-bodies::body_inside g l = l.room * 32 + 21

abbrev pub decreases-bodies::run_body : goal.decreases-bodies::run_body
decreases-bodies::run_body g l = l.room * 32 + 20

abbrev pub decreases-statements::statement : goal.decreases-statements::statement
decreases-statements::statement g l = l.room * 32 + 1

abbrev pub decreases-statements::by_form : goal.decreases-statements::by_form
decreases-statements::by_form g l = l.room * 32 + 0

abbrev pub decreases-statements::statement_form : goal.decreases-statements::statement_form
decreases-statements::statement_form g l = l.room * 32 + 31

abbrev pub decreases-statements::expression : goal.decreases-statements::expression
decreases-statements::expression g l = l.room * 32 + 20

abbrev pub decreases-statements::result_of : goal.decreases-statements::result_of
decreases-statements::result_of g l = l.room * 32 + 20

abbrev pub decreases-statements::condition : goal.decreases-statements::condition
decreases-statements::condition g l = l.room * 32 + 20

abbrev pub decreases-statements::run_block : goal.decreases-statements::run_block
decreases-statements::run_block g l = l.room * 32 + 20

abbrev pub decreases-variables::for_variables : goal.decreases-variables::for_variables
decreases-variables::for_variables g l = l.room * 32 + 30

abbrev pub decreases-variables::run_variables : goal.decreases-variables::run_variables
decreases-variables::run_variables g l = l.room * 32 + 29

abbrev pub decreases-variables::declared : goal.decreases-variables::declared
decreases-variables::declared g l = l.room * 32 + 25

abbrev pub decreases-choices::choice : goal.decreases-choices::choice
decreases-choices::choice g l = l.room * 32 + 20

abbrev pub decreases-choices::comma : goal.decreases-choices::comma
decreases-choices::comma g l = l.room * 32 + 20

abbrev pub decreases-prefixes::prefix : goal.decreases-prefixes::prefix
decreases-prefixes::prefix g l = l.room * 32 + 30

abbrev pub decreases-prefixes::operand : goal.decreases-prefixes::operand
decreases-prefixes::operand g l = l.room * 32 + 20

abbrev pub decreases-members::dot : goal.decreases-members::dot
decreases-members::dot g l = l.room * 32 + 20

abbrev pub decreases-members::at : goal.decreases-members::at
decreases-members::at g l = l.room * 32 + 20

abbrev pub decreases-members::index_of_base : goal.decreases-members::index_of_base
decreases-members::index_of_base g l = l.room * 32 + 10

abbrev pub decreases-stores::effect : goal.decreases-stores::effect
decreases-stores::effect g l = l.room * 32 + 10

abbrev pub decreases-stores::assign : goal.decreases-stores::assign
decreases-stores::assign g l = l.room * 32 + 29

abbrev pub decreases-stores::assigned : goal.decreases-stores::assigned
decreases-stores::assigned g l = l.room * 32 + 20

abbrev pub decreases-stores::compounded : goal.decreases-stores::compounded
decreases-stores::compounded g l = l.room * 32 + 25

abbrev pub decreases-stores::compound_right : goal.decreases-stores::compound_right
decreases-stores::compound_right g l = l.room * 32 + 20

-- loops: a round of a later iteration has its step, and so the room below the loop's

abbrev pub decreases-loops::for_expression : goal.decreases-loops::for_expression
decreases-loops::for_expression g l = l.room * 32 + 28

abbrev pub decreases-loops::run_loop : goal.decreases-loops::run_loop
decreases-loops::run_loop g l = l.room * 32 + 26

abbrev pub decreases-loops::first : goal.decreases-loops::first
decreases-loops::first g l = l.room * 32 + 25

abbrev pub decreases-loops::iterations : goal.decreases-loops::iterations
decreases-loops::iterations g l = l.room * 32 + 25

abbrev pub decreases-loops::iteration : goal.decreases-loops::iteration
decreases-loops::iteration g l = l.room * 32 + 34

abbrev pub decreases-loops::entered : goal.decreases-loops::entered
decreases-loops::entered g l = l.room * 32 + 32

abbrev pub decreases-loops::body_entered : goal.decreases-loops::body_entered
decreases-loops::body_entered g l = l.room * 32 + 33

abbrev pub decreases-loops::tested : goal.decreases-loops::tested
decreases-loops::tested g l = l.room * 32 + 23

abbrev pub decreases-loops::body_run : goal.decreases-loops::body_run
decreases-loops::body_run g l = l.room * 32 + 22

abbrev pub decreases-loops::body_ended : goal.decreases-loops::body_ended
decreases-loops::body_ended g l = l.room * 32 + 21

abbrev pub decreases-loops::update_run : goal.decreases-loops::update_run
decreases-loops::update_run g l = l.room * 32 + 19

abbrev pub decreases-loops::iterations-loop-test : goal.decreases-loops::iterations-loop-test
decreases-loops::iterations-loop-test g l = l.turns

abbrev pub invariant-loops::iterations-loop-test : goal.invariant-loops::iterations-loop-test
invariant-loops::iterations-loop-test g l =
    let m = g.S.WorldStore.meaning in
    let old = l.initial.config in
    record {
      left : Leaves m (goal_here m old l.frame (Again l.node.0)) (goal_here m l.config l.frame (Again l.node.0)) old l.config;
      later : Later m old l.config;
      empty : l.stops.waits ≡ [];
    }

-- what is left of a list is what is left of its deeds

abbrev pub decreases-bodies::run_body-loop-element : goal.decreases-bodies::run_body-loop-element
decreases-bodies::run_body-loop-element g l = 4294967296 - l.at

abbrev pub invariant-bodies::run_body-loop-element : goal.invariant-bodies::run_body-loop-element
invariant-bodies::run_body-loop-element g l =
    let m = g.S.WorldStore.meaning in
    let old = l.initial.config in
    let f = l.frame in
    record {
      left : Leaves m (line_here m old f (rest_from m kinds.Function f f.node old l.from)) (line_here m old f (rest_from m kinds.Function f f.node old l.at)) old l.config;
      later : Later m old l.config;
      empty : l.stops.waits ≡ [];
    }

abbrev pub decreases-statements::run_block-loop-part : goal.decreases-statements::run_block-loop-part
decreases-statements::run_block-loop-part g l = 4294967296 - l.at

abbrev pub invariant-statements::run_block-loop-part : goal.invariant-statements::run_block-loop-part
invariant-statements::run_block-loop-part g l =
    let m = g.S.WorldStore.meaning in
    let old = l.initial.config in
    let f = l.frame in
    record {
      left : Leaves m (line_here m old f (rest_from m kinds.Block f l.node old l.from)) (line_here m old f (rest_from m kinds.Block f l.node old l.at)) old l.config;
      later : Later m old l.config;
      empty : l.stops.waits ≡ [];
    }

abbrev pub decreases-variables::run_variables-loop-variable : goal.decreases-variables::run_variables-loop-variable
decreases-variables::run_variables-loop-variable g l = 4294967296 - l.at

abbrev pub invariant-variables::run_variables-loop-variable : goal.invariant-variables::run_variables-loop-variable
invariant-variables::run_variables-loop-variable g l =
    let m = g.S.WorldStore.meaning in
    let old = l.initial.config in
    let f = l.frame in
    record {
      left : Leaves m (line_here m old f (variables_left old f l.node l.from)) (line_here m old f (variables_left old f l.node l.at)) old l.config;
      later : Later m old l.config;
      empty : l.stops.waits ≡ [];
    }

abbrev pub decreases-calls::evaluate_arguments-loop-next : goal.decreases-calls::evaluate_arguments-loop-next
decreases-calls::evaluate_arguments-loop-next g l = 4294967296 - l.at

abbrev pub invariant-calls::evaluate_arguments-loop-next : goal.invariant-calls::evaluate_arguments-loop-next
invariant-calls::evaluate_arguments-loop-next g l =
    let m = g.S.WorldStore.meaning in
    let old = l.initial.config in
    record {
      left : Leaves m (line_here m old l.frame (values_left m old l.frame l.node l.function l.this 0 [])) (line_here m old l.frame (values_left m old l.frame l.node l.function l.this l.at l.values.items)) old l.config;
      later : Later m old l.config;
      there : All (HasValue l.config) l.values.items;
      empty : l.stops.waits ≡ [];
    }

abbrev pub decreases-stores::update : goal.decreases-stores::update
decreases-stores::update g l = l.room * 32 + 25

abbrev pub decreases-prefixes::on_target : goal.decreases-prefixes::on_target
decreases-prefixes::on_target g l = l.room * 32 + 28

abbrev pub decreases-objects::object : goal.decreases-objects::object
decreases-objects::object g l = l.room * 32 + 30

abbrev pub decreases-objects::run_properties : goal.decreases-objects::run_properties
decreases-objects::run_properties g l = l.room * 32 + 20

abbrev pub decreases-objects::run_properties-loop-next : goal.decreases-objects::run_properties-loop-next
decreases-objects::run_properties-loop-next g l = 4294967296 - l.at

abbrev pub invariant-objects::run_properties-loop-next : goal.invariant-objects::run_properties-loop-next
invariant-objects::run_properties-loop-next g l =
    let m = g.S.WorldStore.meaning in
    let old = l.initial.config in
    let f = l.frame in
    record {
      left : Leaves m (line_here m old f (pairs_left old f l.node l.object 0)) (line_here m old f (pairs_left old f l.node l.object l.at)) old l.config;
      later : Later m old l.config;
      empty : l.stops.waits ≡ [];
    }

-- literals of arrays

abbrev pub decreases-arrays::array : goal.decreases-arrays::array
decreases-arrays::array g l = l.room * 32 + 30

abbrev pub decreases-arrays::run_items : goal.decreases-arrays::run_items
decreases-arrays::run_items g l = l.room * 32 + 20

abbrev pub decreases-arrays::last_item : goal.decreases-arrays::last_item
decreases-arrays::last_item g l = l.room * 32 + 10

abbrev pub invariant-arrays::run_items-loop-turn : goal.invariant-arrays::run_items-loop-turn
invariant-arrays::run_items-loop-turn g l =
    let m = g.S.WorldStore.meaning in
    let old = l.initial.config in
    let f = l.frame in
    record {
      left : Leaves m (line_here m old f (items_left old f l.node l.array 0)) (line_here m old f (items_left old f l.node l.array l.from)) old l.config;
      later : Later m old l.config;
      empty : l.stops.waits ≡ [];
    }

-- `new`

abbrev pub decreases-news::new_object : goal.decreases-news::new_object
decreases-news::new_object g l = l.room * 32 + 30

abbrev pub decreases-news::new_function : goal.decreases-news::new_function
decreases-news::new_function g l = l.room * 32 + 28

abbrev pub decreases-news::new_arguments : goal.decreases-news::new_arguments
decreases-news::new_arguments g l = l.room * 32 + 27

abbrev pub decreases-news::constructed : goal.decreases-news::constructed
decreases-news::constructed g l = l.room * 32 + 26

abbrev pub decreases-news::new_arguments-loop-next : goal.decreases-news::new_arguments-loop-next
decreases-news::new_arguments-loop-next g l = 4294967296 - l.at

abbrev pub invariant-news::new_arguments-loop-next : goal.invariant-news::new_arguments-loop-next
invariant-news::new_arguments-loop-next g l =
    let m = g.S.WorldStore.meaning in
    let old = l.initial.config in
    record {
      left : Leaves m (line_here m old l.frame (news_left m old l.frame l.node l.function 0 [])) (line_here m old l.frame (news_left m old l.frame l.node l.function l.at l.values.items)) old l.config;
      later : Later m old l.config;
      there : All (HasValue l.config) l.values.items;
      empty : l.stops.waits ≡ [];
    }

abbrev pub decreases-within::within : goal.decreases-within::within
decreases-within::within g l = l.room * 32 + 20

abbrev pub decreases-within::opened : goal.decreases-within::opened
decreases-within::opened g l = l.room * 32 + 10

abbrev pub decreases-tries::throw_of : goal.decreases-tries::throw_of
decreases-tries::throw_of g l = l.room * 32 + 20

abbrev pub decreases-tries::attempt : goal.decreases-tries::attempt
decreases-tries::attempt g l = l.room * 32 + 30

abbrev pub decreases-tries::attempted : goal.decreases-tries::attempted
decreases-tries::attempted g l = l.room * 32 + 2

abbrev pub decreases-tries::caught : goal.decreases-tries::caught
decreases-tries::caught g l = l.room * 32 + 27

abbrev pub decreases-tries::catch : goal.decreases-tries::catch
decreases-tries::catch g l = l.room * 32 + 26

abbrev pub decreases-tries::in_scope : goal.decreases-tries::in_scope
decreases-tries::in_scope g l = l.room * 32 + 20

abbrev pub decreases-tries::lastly : goal.decreases-tries::lastly
decreases-tries::lastly g l = l.room * 32 + 15

-- `switch`

abbrev pub decreases-switches::switch : goal.decreases-switches::switch
decreases-switches::switch g l = l.room * 32 + 30

abbrev pub decreases-switches::cases : goal.decreases-switches::cases
decreases-switches::cases g l = l.room * 32 + 29

abbrev pub decreases-switches::run_clauses : goal.decreases-switches::run_clauses
decreases-switches::run_clauses g l = l.room * 32 + 20

abbrev pub decreases-switches::run_statements : goal.decreases-switches::run_statements
decreases-switches::run_statements g l = l.room * 32 + 10

abbrev pub decreases-switches::cases-loop-case : goal.decreases-switches::cases-loop-case
decreases-switches::cases-loop-case g l = 4294967296 - l.from

abbrev pub invariant-switches::cases-loop-case : goal.invariant-switches::cases-loop-case
invariant-switches::cases-loop-case g l =
    let m = g.S.WorldStore.meaning in
    let old = l.initial.config in
    let f = l.frame in
    record {
      left : Leaves m (line_here m old f (cases_left old f l.node l.sought 0)) (line_here m l.config f (cases_left l.config f l.node l.sought l.from)) old l.config;
      later : Later m old l.config;
      empty : l.stops.waits ≡ [];
    }

abbrev pub decreases-switches::run_statements-loop-part : goal.decreases-switches::run_statements-loop-part
decreases-switches::run_statements-loop-part g l = 4294967296 - l.at

abbrev pub invariant-switches::run_statements-loop-part : goal.invariant-switches::run_statements-loop-part
invariant-switches::run_statements-loop-part g l =
    let m = g.S.WorldStore.meaning in
    let old = l.initial.config in
    let f = l.frame in
    record {
      left : Leaves m (line_here m old f (statements_left old f l.node l.from)) (line_here m l.config f (statements_left l.config f l.node l.at)) old l.config;
      later : Later m old l.config;
      empty : l.stops.waits ≡ [];
    }

-- labelled statements
abbrev pub decreases-labels::labelled : goal.decreases-labels::labelled
decreases-labels::labelled g l = l.room * 32 + 20

-- the loop `do`
abbrev pub decreases-do_loops::run_do : goal.decreases-do_loops::run_do
decreases-do_loops::run_do g l = l.room * 32 + 26

abbrev pub decreases-do_loops::first : goal.decreases-do_loops::first
decreases-do_loops::first g l = l.room * 32 + 25

abbrev pub decreases-do_loops::iterations : goal.decreases-do_loops::iterations
decreases-do_loops::iterations g l = l.room * 32 + 25

abbrev pub decreases-do_loops::iteration : goal.decreases-do_loops::iteration
decreases-do_loops::iteration g l = l.room * 32 + 33

abbrev pub decreases-do_loops::body_ended : goal.decreases-do_loops::body_ended
decreases-do_loops::body_ended g l = l.room * 32 + 21

abbrev pub decreases-do_loops::asked : goal.decreases-do_loops::asked
decreases-do_loops::asked g l = l.room * 32 + 20

abbrev pub decreases-do_loops::iterations-rounds : goal.decreases-do_loops::iterations-rounds
decreases-do_loops::iterations-rounds g l = l.turns

abbrev pub invariant-do_loops::iterations-rounds : goal.invariant-do_loops::iterations-rounds
invariant-do_loops::iterations-rounds g l =
    let m = g.S.WorldStore.meaning in
    let old = l.initial.config in
    record {
      left : Leaves m (goal_here m old l.frame (Again l.node.0)) (goal_here m l.config l.frame (Again l.node.0)) old l.config;
      later : Later m old l.config;
      empty : l.stops.waits ≡ [];
    }

-- `delete` and `typeof`
abbrev pub decreases-operands::asked : goal.decreases-operands::asked
decreases-operands::asked g l = l.room * 32 + 27

abbrev pub decreases-operands::target_asked : goal.decreases-operands::target_asked
decreases-operands::target_asked g l = l.room * 32 + 20

-- the loop `for`-`in`
abbrev pub decreases-for_ins::for_in : goal.decreases-for_ins::for_in
decreases-for_ins::for_in g l = l.room * 32 + 30

abbrev pub decreases-for_ins::run_visits : goal.decreases-for_ins::run_visits
decreases-for_ins::run_visits g l = l.room * 32 + 27

abbrev pub decreases-for_ins::visit_next : goal.decreases-for_ins::visit_next
decreases-for_ins::visit_next g l = l.room * 32 + 26

abbrev pub decreases-for_ins::visit_target : goal.decreases-for_ins::visit_target
decreases-for_ins::visit_target g l = l.room * 32 + 24

abbrev pub decreases-for_ins::named : goal.decreases-for_ins::named
decreases-for_ins::named g l = l.room * 32 + 23

abbrev pub decreases-for_ins::run_visits-rounds : goal.decreases-for_ins::run_visits-rounds
decreases-for_ins::run_visits-rounds g l = l.turns

abbrev pub invariant-for_ins::run_visits-rounds : goal.invariant-for_ins::run_visits-rounds
invariant-for_ins::run_visits-rounds g l =
    let m = g.S.WorldStore.meaning in
    let old = l.initial.config in
    let f = l.frame in
    record {
      left : Leaves m (line_here m old f (visits_left l.node l.taker l.body l.initial.visits.held)) (line_here m l.config f (visits_left l.node l.taker l.body l.visits.held)) old l.config;
      later : Later m old l.config;
      empty : l.stops.waits ≡ [];
      visits : HoldsVisits m l.config f l.node l.visits;
    }
