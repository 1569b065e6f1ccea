use Rattle.std.proofs.Common.{◌≡◌, ◌∙◌, ap, ◌-◌, suc, List, sym, subst, arith, get_or, Some, None, true, false}
use Rattle.wjs_base.specs.declared.ids.NodeId.{NodeId}
use Rattle.wjs_tree.specs.declared.node.Node.TheVariants as forms
use Rattle.wjs_tree.specs.declared.node.Clause.{Clause}
use Rattle.wjs_tree.specs.Jumps.{in_switch}
use Rattle.wjs_labels.specs.Around.{around_of}
use Rattle.wjs_tree.specs.There.{StmtThere, StmtsThere, ClausesThere, OptionThere}
use Rattle.wjs_labels.specs.Answers.{StmtAnswer, OptionAnswer, StmtsAnswer}
use Rattle.wjs_labels.proofs.Lists.{stmts_here, stmts_on, stmts_wrong, stmts_done, clauses_here, clauses_on, clauses_wrong, clauses_done}
use Rattle.wjs_tree.proofs.Steps.{within, room_for, formed, block_low, label_low, switch_low, world_low, try_low, if_low}
use Rattle.wjs_tree.proofs.Forms.{loop_low}
use Rattle.wjs_labels.proofs.Steps.{answered, loop_right, label_right, world_right, try_body_wrong, try_handler_wrong, try_right, switch_wrong, switch_clauses, StmtWalk, walk_answer, walk_on, if_wrong, if_right}
use Rattle.wjs_labels.proofs.jumps.+jumps.Goals as goal

pub form_is_right-node-requires : goal.form_is_right-node-requires
form_is_right-node-requires t c = within c.args.nodes.now c.args.id c.requires.there.0 c.requires.there.1

pub form_is_right-labelled_is_right-requires : goal.form_is_right-labelled_is_right-requires
form_is_right-labelled_is_right-requires t c = let f = formed c.args.nodes.now c.args.room c.args.id c.node.result.now (forms.Label c.in-Label.name c.in-Label.body) c.node.ensures.there c.in-Label.is c.requires.there in (omega arith, label_low c.args.nodes.now c.args.room c.in-Label.name c.in-Label.body f)

pub form_is_right-returns-in-Label : goal.form_is_right-returns-in-Label
form_is_right-returns-in-Label t c = answered c.args.nodes.now (around_of c.args.around) c.args.id c.node.result.now (forms.Label c.in-Label.name c.in-Label.body) c.labelled_is_right.result c.node.ensures.there c.in-Label.is (label_right c.args.nodes.now (around_of c.args.around) c.in-Label.name c.in-Label.body c.labelled_is_right.result c.labelled_is_right.ensures)

pub form_is_right-statement_is_right-requires : goal.form_is_right-statement_is_right-requires
form_is_right-statement_is_right-requires t c = let f = formed c.args.nodes.now c.args.room c.args.id c.node.result.now (forms.Within c.in-Within.field-0 c.in-Within.body) c.node.ensures.there c.in-Within.is c.requires.there in (omega arith, world_low c.args.nodes.now c.args.room c.in-Within.field-0 c.in-Within.body f)

pub form_is_right-returns-in-Within : goal.form_is_right-returns-in-Within
form_is_right-returns-in-Within t c = answered c.args.nodes.now (around_of c.args.around) c.args.id c.node.result.now (forms.Within c.in-Within.field-0 c.in-Within.body) c.statement_is_right.result c.node.ensures.there c.in-Within.is (world_right c.args.nodes.now (around_of c.args.around) c.in-Within.field-0 c.in-Within.body c.statement_is_right.result c.statement_is_right.ensures)

pub form_is_right-statement_is_right-requires-in-Some : goal.form_is_right-statement_is_right-requires-in-Some
form_is_right-statement_is_right-requires-in-Some t c = (omega arith, loop_low c.args.nodes.now c.args.room c.args.id c.node.result.now c.in-Some.body c.node.ensures.there (sym c.loop_body.ensures ∙ c.in-Some.is) c.requires.there)

pub form_is_right-returns-in-Some : goal.form_is_right-returns-in-Some
form_is_right-returns-in-Some t c = loop_right c.args.nodes.now (around_of c.args.around) c.args.id c.node.result.now c.in-Some.body c.statement_is_right-in-Some.result c.node.ensures.there (sym c.loop_body.ensures ∙ c.in-Some.is) c.statement_is_right-in-Some.ensures

pub form_is_right-statements_are_right-requires : goal.form_is_right-statements_are_right-requires
form_is_right-statements_are_right-requires t c = let f = formed c.args.nodes.now c.args.room c.args.id c.node.result.now (forms.Block c.in-Block.body) c.node.ensures.there c.in-Block.is c.requires.there in (omega arith, subst (StmtsThere c.args.nodes.now c.args.room) (sym c.as_slice.ensures) (block_low c.args.nodes.now c.args.room c.in-Block.body f))

pub form_is_right-switch_is_right-requires : goal.form_is_right-switch_is_right-requires
form_is_right-switch_is_right-requires t c = let f = formed c.args.nodes.now c.args.room c.args.id c.node.result.now (forms.Switch c.in-Switch.field-0 c.in-Switch.clauses) c.node.ensures.there c.in-Switch.is c.requires.there in (omega arith, subst (ClausesThere c.args.nodes.now c.args.room) (sym c.as_slice-in-Switch.ensures) (switch_low c.args.nodes.now c.args.room c.in-Switch.field-0 c.in-Switch.clauses f))

pub form_is_right-try_is_right-requires : goal.form_is_right-try_is_right-requires
form_is_right-try_is_right-requires t c = (omega arith, formed c.args.nodes.now c.args.room c.args.id c.node.result.now (forms.Try c.in-Try.body c.in-Try.handler c.in-Try.last) c.node.ensures.there c.in-Try.is c.requires.there)

pub form_is_right-returns-in-Try : goal.form_is_right-returns-in-Try
form_is_right-returns-in-Try t c = answered c.args.nodes.now (around_of c.args.around) c.args.id c.node.result.now (forms.Try c.in-Try.body c.in-Try.handler c.in-Try.last) c.try_is_right.result c.node.ensures.there c.in-Try.is c.try_is_right.ensures

pub statement_is_right-node-requires : goal.statement_is_right-node-requires
statement_is_right-node-requires t c = within c.args.nodes.now c.loop-first.at c.loop-first.invariant.there.0 c.loop-first.invariant.there.1

pub statement_is_right-overflow_sub-room : goal.statement_is_right-overflow_sub-room
statement_is_right-overflow_sub-room t c = room_for c.args.nodes.now c.args.room c.loop-first.at c.loop-first.invariant.there

pub statement_is_right-overflow_sub-room-in_default : goal.statement_is_right-overflow_sub-room-in_default
statement_is_right-overflow_sub-room-in_default t c = room_for c.args.nodes.now c.args.room c.loop-first.at c.loop-first.invariant.there

pub statement_is_right-statement_is_right-requires : goal.statement_is_right-statement_is_right-requires
statement_is_right-statement_is_right-requires t c = let some = room_for c.args.nodes.now c.args.room c.loop-first.at c.loop-first.invariant.there in let same : c.args.room ≡ suc (c.args.room - 1) = omega arith in let there = subst (λ z. StmtThere c.args.nodes.now z c.loop-first.at) same c.loop-first.invariant.there in let f = formed c.args.nodes.now (c.args.room - 1) c.loop-first.at c.node.result.now (forms.If c.in-If.field-0 c.in-If.first c.in-If.other) c.node.ensures.there c.in-If.is there in (omega arith, if_low c.args.nodes.now (c.args.room - 1) c.in-If.field-0 c.in-If.first c.in-If.other f)

pub statement_is_right-returns-then-not-statement_is_right : goal.statement_is_right-returns-then-not-statement_is_right
statement_is_right-returns-then-not-statement_is_right t c = walk_answer c.args.nodes.now (around_of c.args.around) c.args.room c.args.id c.loop-first.at false c.loop-first.invariant (answered c.args.nodes.now (around_of c.args.around) c.loop-first.at c.node.result.now (forms.If c.in-If.field-0 c.in-If.first c.in-If.other) false c.node.ensures.there c.in-If.is (if_wrong c.args.nodes.now (around_of c.args.around) c.in-If.field-0 c.in-If.first c.in-If.other c.statement_is_right.result c.if-not-statement_is_right.true c.statement_is_right.ensures))

pub statement_is_right-loop-first-preserved : goal.statement_is_right-loop-first-preserved
statement_is_right-loop-first-preserved t c = let some = room_for c.args.nodes.now c.args.room c.loop-first.at c.loop-first.invariant.there in let same : c.args.room ≡ suc (c.args.room - 1) = omega arith in let is : c.node.result.now ≡ forms.If c.in-If.field-0 c.in-If.first (Some c.in-Some.second) = subst (λ o. c.node.result.now ≡ forms.If c.in-If.field-0 c.in-If.first o) c.in-Some.is c.in-If.is in subst (λ z. StmtWalk c.args.nodes.now (around_of c.args.around) z c.args.id c.in-Some.second) (sym same) (walk_on c.args.nodes.now (around_of c.args.around) (c.args.room - 1) c.args.id c.loop-first.at c.in-If.field-0 c.in-If.first c.in-Some.second c.node.result.now c.statement_is_right.result c.node.ensures.there is c.if-not-statement_is_right.false c.statement_is_right.ensures (subst (λ z. StmtWalk c.args.nodes.now (around_of c.args.around) z c.args.id c.loop-first.at) same c.loop-first.invariant))

pub statement_is_right-returns-in-None : goal.statement_is_right-returns-in-None
statement_is_right-returns-in-None t c = let is : c.node.result.now ≡ forms.If c.in-If.field-0 c.in-If.first None = subst (λ o. c.node.result.now ≡ forms.If c.in-If.field-0 c.in-If.first o) c.in-None.is c.in-If.is in walk_answer c.args.nodes.now (around_of c.args.around) c.args.room c.args.id c.loop-first.at true c.loop-first.invariant (answered c.args.nodes.now (around_of c.args.around) c.loop-first.at c.node.result.now (forms.If c.in-If.field-0 c.in-If.first None) true c.node.ensures.there is (if_right c.args.nodes.now (around_of c.args.around) c.in-If.field-0 c.in-If.first true (subst (StmtAnswer c.args.nodes.now (around_of c.args.around) c.in-If.first) c.if-not-statement_is_right.false c.statement_is_right.ensures)))

pub statement_is_right-form_is_right-requires : goal.statement_is_right-form_is_right-requires
statement_is_right-form_is_right-requires t c = let some = room_for c.args.nodes.now c.args.room c.loop-first.at c.loop-first.invariant.there in let same : c.args.room ≡ suc (c.args.room - 1) = omega arith in let there = subst (λ z. StmtThere c.args.nodes.now z c.loop-first.at) same c.loop-first.invariant.there in let other = c.in_default.not-If in (omega arith, (there, λ a b o h. other a b o (let at_it = c.node.ensures.there in let e : c.node.result.now ≡ forms.If a b o = cc in e)))

pub statement_is_right-returns-in_default : goal.statement_is_right-returns-in_default
statement_is_right-returns-in_default t c = walk_answer c.args.nodes.now (around_of c.args.around) c.args.room c.args.id c.loop-first.at c.form_is_right.result c.loop-first.invariant c.form_is_right.ensures

pub statements_are_right-statement_is_right-requires : goal.statements_are_right-statement_is_right-requires
statements_are_right-statement_is_right-requires t c = (omega arith, stmts_here c.args.nodes.now (around_of c.args.around) c.args.room c.args.list.now c.loop-id.id-index (record { 0 = 0 }) c.loop-id-test.true c.loop-id.invariant)

pub statements_are_right-returns-then-not-statement_is_right : goal.statements_are_right-returns-then-not-statement_is_right
statements_are_right-returns-then-not-statement_is_right t c = stmts_wrong c.args.nodes.now (around_of c.args.around) c.args.room c.args.list.now c.loop-id.id-index (record { 0 = 0 }) c.statement_is_right.result c.loop-id-test.true c.if-not-statement_is_right.true c.statement_is_right.ensures c.loop-id.invariant

pub statements_are_right-loop-id-preserved : goal.statements_are_right-loop-id-preserved
statements_are_right-loop-id-preserved t c = stmts_on c.args.nodes.now (around_of c.args.around) c.args.room c.args.list.now c.loop-id.id-index (record { 0 = 0 }) c.statement_is_right.result c.loop-id-test.true c.if-not-statement_is_right.false c.statement_is_right.ensures c.loop-id.invariant

pub statements_are_right-returns : goal.statements_are_right-returns
statements_are_right-returns t c = stmts_done c.args.nodes.now (around_of c.args.around) c.args.room c.args.list.now c.loop-id.id-index c.loop-id-test.false c.loop-id.invariant

pub switch_is_right-returns-then-default_count-gt1 : goal.switch_is_right-returns-then-default_count-gt1
switch_is_right-returns-then-default_count-gt1 t c = switch_wrong c.args.nodes.now (around_of c.args.around) c.args.clauses.now c.default_count.result c.default_count.ensures c.if-default_count-gt1.true

pub switch_is_right-statements_are_right-requires : goal.switch_is_right-statements_are_right-requires
switch_is_right-statements_are_right-requires t c = let is : c.as_slice.result.now ≡ (get_or c.args.clauses.now c.loop-clause.clause-index c.clause-item.result).body = c.as_slice.ensures ∙ ap (λ (z : Clause). z.body) c.clause-item.is in (omega arith, subst (StmtsThere c.args.nodes.now c.args.room) (sym is) (clauses_here c.args.nodes.now (in_switch (around_of c.args.around)) c.args.room c.args.clauses.now c.loop-clause.clause-index c.clause-item.result c.loop-clause-test.true c.loop-clause.invariant))

pub switch_is_right-returns-then-not-statements_are_right : goal.switch_is_right-returns-then-not-statements_are_right
switch_is_right-returns-then-not-statements_are_right t c = let is : c.as_slice.result.now ≡ (get_or c.args.clauses.now c.loop-clause.clause-index c.clause-item.result).body = c.as_slice.ensures ∙ ap (λ (z : Clause). z.body) c.clause-item.is in let w = subst (λ (z : List NodeId). StmtsAnswer c.args.nodes.now (in_switch (around_of c.args.around)) z c.statements_are_right.result) is c.statements_are_right.ensures in switch_clauses c.args.nodes.now (around_of c.args.around) c.args.clauses.now c.default_count.result false c.default_count.ensures (omega arith) (clauses_wrong c.args.nodes.now (in_switch (around_of c.args.around)) c.args.room c.args.clauses.now c.loop-clause.clause-index c.clause-item.result c.statements_are_right.result c.loop-clause-test.true c.if-not-statements_are_right.true w c.loop-clause.invariant)

pub switch_is_right-loop-clause-preserved : goal.switch_is_right-loop-clause-preserved
switch_is_right-loop-clause-preserved t c = let is : c.as_slice.result.now ≡ (get_or c.args.clauses.now c.loop-clause.clause-index c.clause-item.result).body = c.as_slice.ensures ∙ ap (λ (z : Clause). z.body) c.clause-item.is in let w = subst (λ (z : List NodeId). StmtsAnswer c.args.nodes.now (in_switch (around_of c.args.around)) z c.statements_are_right.result) is c.statements_are_right.ensures in clauses_on c.args.nodes.now (in_switch (around_of c.args.around)) c.args.room c.args.clauses.now c.loop-clause.clause-index c.clause-item.result c.statements_are_right.result c.loop-clause-test.true c.if-not-statements_are_right.false w c.loop-clause.invariant

pub switch_is_right-returns : goal.switch_is_right-returns
switch_is_right-returns t c = switch_clauses c.args.nodes.now (around_of c.args.around) c.args.clauses.now c.default_count.result true c.default_count.ensures (omega arith) (clauses_done c.args.nodes.now (in_switch (around_of c.args.around)) c.args.room c.args.clauses.now c.loop-clause.clause-index c.loop-clause-test.false c.loop-clause.invariant)

pub try_is_right-statement_is_right-requires : goal.try_is_right-statement_is_right-requires
try_is_right-statement_is_right-requires t c = (omega arith, (try_low c.args.nodes.now c.args.room c.args.body c.args.handler c.args.last c.requires).body)

pub try_is_right-returns-then-not-statement_is_right : goal.try_is_right-returns-then-not-statement_is_right
try_is_right-returns-then-not-statement_is_right t c = try_body_wrong c.args.nodes.now (around_of c.args.around) c.args.body c.args.handler c.args.last c.statement_is_right.result c.if-not-statement_is_right.true c.statement_is_right.ensures

pub try_is_right-optional_is_right-requires : goal.try_is_right-optional_is_right-requires
try_is_right-optional_is_right-requires t c = (omega arith, subst (OptionThere c.args.nodes.now c.args.room) (sym c.block_of.ensures) (try_low c.args.nodes.now c.args.room c.args.body c.args.handler c.args.last c.requires).handler)

pub try_is_right-returns-then-not-optional_is_right : goal.try_is_right-returns-then-not-optional_is_right
try_is_right-returns-then-not-optional_is_right t c = try_handler_wrong c.args.nodes.now (around_of c.args.around) c.args.body c.args.handler c.args.last c.optional_is_right.result c.if-not-optional_is_right.true (subst (λ o. OptionAnswer c.args.nodes.now (around_of c.args.around) o c.optional_is_right.result) c.block_of.ensures c.optional_is_right.ensures)

pub try_is_right-optional_is_right-requires-2 : goal.try_is_right-optional_is_right-requires-2
try_is_right-optional_is_right-requires-2 t c = (omega arith, (try_low c.args.nodes.now c.args.room c.args.body c.args.handler c.args.last c.requires).last)

pub try_is_right-returns : goal.try_is_right-returns
try_is_right-returns t c = try_right c.args.nodes.now (around_of c.args.around) c.args.body c.args.handler c.args.last c.statement_is_right.result c.optional_is_right.result c.optional_is_right-2.result c.if-not-statement_is_right.false c.if-not-optional_is_right.false c.statement_is_right.ensures (subst (λ o. OptionAnswer c.args.nodes.now (around_of c.args.around) o c.optional_is_right.result) c.block_of.ensures c.optional_is_right.ensures) c.optional_is_right-2.ensures
