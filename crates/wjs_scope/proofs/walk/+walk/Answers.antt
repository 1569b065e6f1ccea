use Rattle.std.proofs.Common.{◌≡◌, ◌∙◌, ap, ◌-◌, suc, List, sym, subst, arith, get_or, Some, None}
use Rattle.wjs_base.specs.declared.ids.NodeId.{NodeId}
use Rattle.wjs_tree.specs.declared.node.Node.TheVariants as forms
use Rattle.wjs_tree.specs.declared.node.Clause.{Clause}
use Rattle.wjs_tree.specs.declared.node.Declarator.{Declarator}
use Rattle.wjs_tree.specs.Forms.{loop_body}
use Rattle.wjs_tree.specs.There.{StmtThere, StmtsThere, ClausesThere, OptionThere}
use Rattle.wjs_scope.specs.Answers.{StmtAdds, OptionAdds, StmtsAdds, FormAdds, VariablesAdd}
use Rattle.wjs_scope.proofs.Lists.{stmts_here, stmts_on, stmts_done, clauses_here, clauses_on, clauses_done}
use Rattle.wjs_tree.proofs.Steps.{within, room_for, formed, block_low, label_low, switch_low, world_low, try_low, if_low}
use Rattle.wjs_tree.proofs.Forms.{loop_low}
use Rattle.wjs_scope.proofs.Steps.{added_by, on_ok, var_adds, for_adds, world_adds, try_adds, StmtWalk, walk_end, walk_on, if_adds}
use Rattle.wjs_scope.proofs.walk.+walk.Goals as goal

pub form-node-requires : goal.form-node-requires
form-node-requires t c = within c.args.nodes.now c.args.id c.requires.there.0 c.requires.there.1

pub form-statement-requires : goal.form-statement-requires
form-statement-requires t c = (omega arith, loop_low c.args.nodes.now c.args.room c.args.id c.node.result.now c.in-DoWhile.body c.node.ensures.there (ap loop_body c.in-DoWhile.is) c.requires.there)

pub form-statement-requires-in-While : goal.form-statement-requires-in-While
form-statement-requires-in-While t c = (omega arith, loop_low c.args.nodes.now c.args.room c.args.id c.node.result.now c.in-While.body c.node.ensures.there (ap loop_body c.in-While.is) c.requires.there)

pub form-statement-requires-in-For : goal.form-statement-requires-in-For
form-statement-requires-in-For t c = (omega arith, loop_low c.args.nodes.now c.args.room c.args.id c.node.result.now c.in-For.body c.node.ensures.there (ap loop_body c.in-For.is) c.requires.there)

pub form-statement-requires-in-ForIn : goal.form-statement-requires-in-ForIn
form-statement-requires-in-ForIn t c = (omega arith, loop_low c.args.nodes.now c.args.room c.args.id c.node.result.now c.in-ForIn.body c.node.ensures.there (ap loop_body c.in-ForIn.is) c.requires.there)

pub form-statement-requires-in-ForVarIn : goal.form-statement-requires-in-ForVarIn
form-statement-requires-in-ForVarIn t c = (omega arith, loop_low c.args.nodes.now c.args.room c.args.id c.node.result.now c.in-ForVarIn.body c.node.ensures.there (ap loop_body c.in-ForVarIn.is) c.requires.there)

pub form-statement-requires-in-Label : goal.form-statement-requires-in-Label
form-statement-requires-in-Label t c = let f = formed c.args.nodes.now c.args.room c.args.id c.node.result.now (forms.Label c.in-Label.field-0 c.in-Label.body) c.node.ensures.there c.in-Label.is c.requires.there in (omega arith, label_low c.args.nodes.now c.args.room c.in-Label.field-0 c.in-Label.body f)

pub form-statement-requires-in-Within : goal.form-statement-requires-in-Within
form-statement-requires-in-Within t c = let f = formed c.args.nodes.now c.args.room c.args.id c.node.result.now (forms.Within c.in-Within.field-0 c.in-Within.body) c.node.ensures.there c.in-Within.is c.requires.there in (omega arith, world_low c.args.nodes.now c.args.room c.in-Within.field-0 c.in-Within.body f)

pub form-statements-requires : goal.form-statements-requires
form-statements-requires t c = let f = formed c.args.nodes.now c.args.room c.args.id c.node.result.now (forms.Block c.in-Block.body) c.node.ensures.there c.in-Block.is c.requires.there in (omega arith, subst (StmtsThere c.args.nodes.now c.args.room) (sym c.as_slice.ensures) (block_low c.args.nodes.now c.args.room c.in-Block.body f))

pub clauses-statements-requires : goal.clauses-statements-requires
clauses-statements-requires t c = let is : c.as_slice.result.now ≡ (get_or c.args.list.now c.loop-clause.clause-index c.clause-item.result).body = c.as_slice.ensures ∙ ap (λ (z : Clause). z.body) c.clause-item.is in (omega arith, subst (StmtsThere c.args.nodes.now c.args.room) (sym is) (clauses_here c.args.nodes.now c.args.room c.args.list.now c.args.vars.now c.loop-clause.clause-index c.loop-clause.vars c.clause-item.result c.loop-clause-test.true c.loop-clause.invariant))

pub clauses-loop-clause-preserved : goal.clauses-loop-clause-preserved
clauses-loop-clause-preserved t c = let is : c.as_slice.result.now ≡ (get_or c.args.list.now c.loop-clause.clause-index c.clause-item.result).body = c.as_slice.ensures ∙ ap (λ (z : Clause). z.body) c.clause-item.is in clauses_on c.args.nodes.now c.args.room c.args.list.now c.args.vars.now c.loop-clause.clause-index c.loop-clause.vars c.statements.new.vars c.clause-item.result c.loop-clause-test.true (subst (λ (z : List NodeId). StmtsAdds c.args.nodes.now z c.loop-clause.vars c.statements.new.vars) is c.in_ok-statements.ensures) c.loop-clause.invariant

pub clauses-returns : goal.clauses-returns
clauses-returns t c = clauses_done c.args.nodes.now c.args.room c.args.list.now c.args.vars.now c.loop-clause.clause-index c.loop-clause.vars c.loop-clause-test.false c.loop-clause.invariant

pub form-clauses-requires : goal.form-clauses-requires
form-clauses-requires t c = let f = formed c.args.nodes.now c.args.room c.args.id c.node.result.now (forms.Switch c.in-Switch.field-0 c.in-Switch.list) c.node.ensures.there c.in-Switch.is c.requires.there in (omega arith, subst (ClausesThere c.args.nodes.now c.args.room) (sym c.as_slice-in-Switch.ensures) (switch_low c.args.nodes.now c.args.room c.in-Switch.field-0 c.in-Switch.list f))

pub form-tried-requires : goal.form-tried-requires
form-tried-requires t c = (omega arith, formed c.args.nodes.now c.args.room c.args.id c.node.result.now (forms.Try c.in-Try.body c.in-Try.handler c.in-Try.last) c.node.ensures.there c.in-Try.is c.requires.there)

pub form-returns-in-Var : goal.form-returns-in-Var
form-returns-in-Var t c = on_ok c.declarators.result (VariablesAdd c.as_slice-in-Var.result.now c.args.vars.now c.declarators.new.vars) (StmtAdds c.args.nodes.now c.args.id c.args.vars.now c.declarators.new.vars) (λ a. added_by c.args.nodes.now c.args.id c.node.result.now (forms.Var c.in-Var.list c.in-Var.field-1) c.args.vars.now c.declarators.new.vars c.node.ensures.there c.in-Var.is (var_adds c.args.nodes.now c.in-Var.list c.in-Var.field-1 c.args.vars.now c.declarators.new.vars (subst (λ (z : List Declarator). VariablesAdd z c.args.vars.now c.declarators.new.vars) c.as_slice-in-Var.ensures a))) c.declarators.ensures

pub form-returns-in_ok-initial-in-For : goal.form-returns-in_ok-initial-in-For
form-returns-in_ok-initial-in-For t c = on_ok c.statement-in-For.result (StmtAdds c.args.nodes.now c.in-For.body c.initial.new.vars c.statement-in-For.new.vars) (StmtAdds c.args.nodes.now c.args.id c.args.vars.now c.statement-in-For.new.vars) (λ a. added_by c.args.nodes.now c.args.id c.node.result.now (forms.For c.in-For.init c.in-For.field-1 c.in-For.field-2 c.in-For.body) c.args.vars.now c.statement-in-For.new.vars c.node.ensures.there c.in-For.is (for_adds c.args.nodes.now c.in-For.init c.in-For.field-1 c.in-For.field-2 c.in-For.body c.args.vars.now c.initial.new.vars c.statement-in-For.new.vars c.in_ok-initial-in-For.ensures a)) c.statement-in-For.ensures

pub form-returns-in-Try : goal.form-returns-in-Try
form-returns-in-Try t c = on_ok c.tried.result (FormAdds c.args.nodes.now (forms.Try c.in-Try.body c.in-Try.handler c.in-Try.last) c.args.vars.now c.tried.new.vars) (StmtAdds c.args.nodes.now c.args.id c.args.vars.now c.tried.new.vars) (λ a. added_by c.args.nodes.now c.args.id c.node.result.now (forms.Try c.in-Try.body c.in-Try.handler c.in-Try.last) c.args.vars.now c.tried.new.vars c.node.ensures.there c.in-Try.is (a)) c.tried.ensures

pub form-returns-in-Within : goal.form-returns-in-Within
form-returns-in-Within t c = on_ok c.statement-in-Within.result (StmtAdds c.args.nodes.now c.in-Within.body c.args.vars.now c.statement-in-Within.new.vars) (StmtAdds c.args.nodes.now c.args.id c.args.vars.now c.statement-in-Within.new.vars) (λ a. added_by c.args.nodes.now c.args.id c.node.result.now (forms.Within c.in-Within.field-0 c.in-Within.body) c.args.vars.now c.statement-in-Within.new.vars c.node.ensures.there c.in-Within.is (world_adds c.args.nodes.now c.in-Within.field-0 c.in-Within.body c.args.vars.now c.statement-in-Within.new.vars a)) c.statement-in-Within.ensures

pub statement-node-requires : goal.statement-node-requires
statement-node-requires t c = within c.args.nodes.now c.loop-first.at c.loop-first.invariant.there.0 c.loop-first.invariant.there.1

pub statement-overflow_sub-room : goal.statement-overflow_sub-room
statement-overflow_sub-room t c = room_for c.args.nodes.now c.args.room c.loop-first.at c.loop-first.invariant.there

pub statement-statement-requires : goal.statement-statement-requires
statement-statement-requires t c = let some = room_for c.args.nodes.now c.args.room c.loop-first.at c.loop-first.invariant.there in let same : c.args.room ≡ suc (c.args.room - 1) = omega arith in let there = subst (λ z. StmtThere c.args.nodes.now z c.loop-first.at) same c.loop-first.invariant.there in let f = formed c.args.nodes.now (c.args.room - 1) c.loop-first.at c.node.result.now (forms.If c.in-If.field-0 c.in-If.first c.in-If.other) c.node.ensures.there c.in-If.is there in (omega arith, if_low c.args.nodes.now (c.args.room - 1) c.in-If.field-0 c.in-If.first c.in-If.other f)

pub statement-loop-first-preserved : goal.statement-loop-first-preserved
statement-loop-first-preserved t c = let some = room_for c.args.nodes.now c.args.room c.loop-first.at c.loop-first.invariant.there in let same : c.args.room ≡ suc (c.args.room - 1) = omega arith in let is : c.node.result.now ≡ forms.If c.in-If.field-0 c.in-If.first (Some c.in-Some.second) = subst (λ o. c.node.result.now ≡ forms.If c.in-If.field-0 c.in-If.first o) c.in-Some.is c.in-If.is in subst (λ z. StmtWalk c.args.nodes.now z c.args.id c.args.vars.now c.in-Some.second c.statement.new.vars) (sym same) (walk_on c.args.nodes.now (c.args.room - 1) c.args.id c.loop-first.at c.in-If.field-0 c.in-If.first c.in-Some.second c.node.result.now c.args.vars.now c.loop-first.vars c.statement.new.vars c.node.ensures.there is c.in_ok-statement-in-If.ensures (subst (λ z. StmtWalk c.args.nodes.now z c.args.id c.args.vars.now c.loop-first.at c.loop-first.vars) same c.loop-first.invariant))

pub statement-returns-in-None : goal.statement-returns-in-None
statement-returns-in-None t c = let is : c.node.result.now ≡ forms.If c.in-If.field-0 c.in-If.first None = subst (λ o. c.node.result.now ≡ forms.If c.in-If.field-0 c.in-If.first o) c.in-None.is c.in-If.is in walk_end c.args.nodes.now c.args.room c.args.id c.loop-first.at c.args.vars.now c.loop-first.vars c.statement.new.vars c.loop-first.invariant (added_by c.args.nodes.now c.loop-first.at c.node.result.now (forms.If c.in-If.field-0 c.in-If.first None) c.loop-first.vars c.statement.new.vars c.node.ensures.there is (if_adds c.args.nodes.now c.in-If.field-0 c.in-If.first c.loop-first.vars c.statement.new.vars c.in_ok-statement-in-If.ensures))

pub statement-overflow_sub-room-in_default : goal.statement-overflow_sub-room-in_default
statement-overflow_sub-room-in_default t c = room_for c.args.nodes.now c.args.room c.loop-first.at c.loop-first.invariant.there

pub statement-form-requires : goal.statement-form-requires
statement-form-requires t c = let some = room_for c.args.nodes.now c.args.room c.loop-first.at c.loop-first.invariant.there in let same : c.args.room ≡ suc (c.args.room - 1) = omega arith in let there = subst (λ z. StmtThere c.args.nodes.now z c.loop-first.at) same c.loop-first.invariant.there in let other = c.in_default.not-If in (omega arith, (there, λ a b o h. other a b o (let at_it = c.node.ensures.there in let e : c.node.result.now ≡ forms.If a b o = cc in e)))

pub statement-returns-in_default : goal.statement-returns-in_default
statement-returns-in_default t c = on_ok c.form.result (StmtAdds c.args.nodes.now c.loop-first.at c.loop-first.vars c.form.new.vars) (StmtAdds c.args.nodes.now c.args.id c.args.vars.now c.form.new.vars) (λ a. walk_end c.args.nodes.now c.args.room c.args.id c.loop-first.at c.args.vars.now c.loop-first.vars c.form.new.vars c.loop-first.invariant a) c.form.ensures

pub statements-statement-requires : goal.statements-statement-requires
statements-statement-requires t c = (omega arith, stmts_here c.args.nodes.now c.args.room c.args.list.now c.args.vars.now c.loop-id.id-index c.loop-id.vars (record { 0 = 0 }) c.loop-id-test.true c.loop-id.invariant)

pub statements-loop-id-preserved : goal.statements-loop-id-preserved
statements-loop-id-preserved t c = stmts_on c.args.nodes.now c.args.room c.args.list.now c.args.vars.now c.loop-id.id-index c.loop-id.vars c.statement.new.vars (record { 0 = 0 }) c.loop-id-test.true c.in_ok-statement.ensures c.loop-id.invariant

pub statements-returns : goal.statements-returns
statements-returns t c = stmts_done c.args.nodes.now c.args.room c.args.list.now c.args.vars.now c.loop-id.id-index c.loop-id.vars c.loop-id-test.false c.loop-id.invariant

pub tried-statement-requires : goal.tried-statement-requires
tried-statement-requires t c = (omega arith, (try_low c.args.nodes.now c.args.room c.args.body c.args.handler c.args.last c.requires).body)

pub tried-optional-requires : goal.tried-optional-requires
tried-optional-requires t c = (omega arith, subst (OptionThere c.args.nodes.now c.args.room) (sym c.block_of.ensures) (try_low c.args.nodes.now c.args.room c.args.body c.args.handler c.args.last c.requires).handler)

pub tried-optional-requires-2 : goal.tried-optional-requires-2
tried-optional-requires-2 t c = (omega arith, (try_low c.args.nodes.now c.args.room c.args.body c.args.handler c.args.last c.requires).last)

pub tried-returns : goal.tried-returns
tried-returns t c = on_ok c.optional-2.result (OptionAdds c.args.nodes.now c.args.last c.optional.new.vars c.optional-2.new.vars) (FormAdds c.args.nodes.now (forms.Try c.args.body c.args.handler c.args.last) c.args.vars.now c.optional-2.new.vars) (λ a. try_adds c.args.nodes.now c.args.body c.args.handler c.args.last c.args.vars.now c.statement.new.vars c.optional.new.vars c.optional-2.new.vars c.in_ok-statement.ensures (subst (λ o. OptionAdds c.args.nodes.now o c.statement.new.vars c.optional.new.vars) c.block_of.ensures c.in_ok-optional.ensures) a) c.optional-2.ensures
