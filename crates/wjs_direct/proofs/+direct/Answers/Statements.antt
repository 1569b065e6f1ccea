-- What holds of the functions of `statements`.
use Rattle.std.proofs.Common.{◌≡◌, ◌-◌, rules, [], Option, None, Some, inl, inr, refl, ap, ◌∙◌, subst, sym}
use Rattle.std.specs.Prelude.{Ok, Err, IfNone, IfSome}
use Rattle.wjs_base.specs.Text.{Table}
use Rattle.wjs_base.specs.declared.ids.NodeId.{NodeId}
use Rattle.wjs_base.specs.declared.values.Value.{Value}
use Rattle.wjs_base.specs.declared.values.Value.TheVariants as values
use Rattle.wjs_by_content.specs.Tables.{text_in, value_in}
use Rattle.wjs_tree.specs.declared.node.Node.TheVariants as nodes
use Rattle.wjs_tree.specs.declared.node.ForInit.{ForInit}
use Rattle.wjs_tree.specs.declared.node.ForInit.TheVariants as inits
use Rattle.wjs_meaning.specs.Deeds.{AtExpr, AtStmt, then_normal, then_value, Ret, Sub}
use Rattle.wjs_meaning.specs.Programs.{entry}
use Rattle.wjs_meaning.specs.Reading.{number, node_in}
use Rattle.wjs_meaning.specs.Statements as statements
use Rattle.wjs_meaning.specs.Loops as loops
use Rattle.wjs_model.specs.declared.frame.Completion.{Completion}
use Rattle.wjs_model.specs.Contents.{completion_in}
use Rattle.wjs_model.specs.Lists.{block_items}
use Rattle.wjs_model.specs.Soundness.{Base, HasCompletion, IsThere, StandsHere, StandsIf}
use Rattle.wjs_model.specs.declared.config.Config.{Config}
use Rattle.wjs_model.specs.declared.frame.Completion.TheVariants as completions
use Rattle.wjs_model.specs.declared.frame.Phase.TheVariants as phases
use Rattle.wjs_model.specs.declared.point.Start.TheVariants as starts
use Rattle.wjs_model.specs.declared.point.Point.TheVariants as points
use Rattle.wjs_model.specs.declared.point.StmtPoint.TheVariants as stmt
use Rattle.wjs_frames.specs.Doing.{Does}
use Rattle.wjs_frames.specs.Parts.{env_in, node_among}
use Rattle.wjs_frames.proofs.Places.{node_known}
use Rattle.wjs_frames.proofs.Parting.{stands_here, stands_if_later, stands_later}
use Rattle.wjs_frames.specs.declared.part.Part.TheVariants as part
use Rattle.wjs_heap_steps.proofs.Later.{later_same, later_twice}
use Rattle.wjs_loops.specs.declared.for_ins.Taker.TheVariants as takers
use Rattle.wjs_loops.specs.ForIns.{taker_of}
use Rattle.wjs_quick.proofs.Coming.{later_left}
use Rattle.wjs_effects.specs.Sequences.{NextIs}
use Rattle.wjs_effects.proofs.Leaving.{shorten_as}
use Rattle.wjs_effects.proofs.Lines.{stmt_is, label_there, if_yes, if_no}
use Rattle.wjs_effects.proofs.Running.{statement_is}
use Rattle.wjs_effects.proofs.StandingElements.{element_stands}
use Rattle.wjs_effects.proofs.Only.{dropped_is, dropped_there}
use Rattle.wjs_effects.specs.declared.elements.Sequence.TheVariants as kinds
use Rattle.wjs_effects.proofs.StandingFors.{for_stands}
use Rattle.wjs_stopping.specs.Ends.{gives_in}
use Rattle.wjs_stopping.specs.Evaluating.{Evaluates}
use Rattle.wjs_stopping.specs.Waiting.{at_node}
use Rattle.wjs_direct_lines.specs.Deeds.{IsNode, goal_here}
use Rattle.wjs_direct_lines.proofs.Forming.{form_goes_on, line_ended, node_there}
use Rattle.wjs_direct_lines.proofs.Parts.{broke_does, broke_found, broke_later, did, due_does, else_stands, form_ends, later_stopped, later_then, line_as, line_form, line_last, ready_does, step_does, stop_found}
use Rattle.wjs_direct_lines.proofs.Elements.{block_begins, element_form, element_passed, element_then, not_normal, rest_all, rest_ended, rest_from, waits_then}
use Rattle.wjs_direct.proofs.Ending.{end_does}
use Rattle.wjs_direct_lines.proofs.Declaring.{for_begins, var_begins}
use Rattle.wjs_direct_lines.proofs.Assigning.{returned_is, returned_there}
use Rattle.wjs_direct_lines.proofs.Nesting.{if_stands}
use Rattle.wjs_direct.proofs.Looping.{round_is}
use Rattle.wjs_direct.specs.Rounds.{IsDo, IsLoop, do_round, loop_round}
use Rattle.wjs_direct_lines.specs.Variables.{DeclaresFirst, variables_left}
use Rattle.wjs_direct.specs.Tries.{caught_here}
use Rattle.wjs_direct.specs.Switches.{sought_then}
use Rattle.wjs_direct.specs.Visits.{TakesNames, over_left}
use Rattle.wjs_direct.proofs.Trying.{last_stands, try_begins}
use Rattle.wjs_direct.proofs.Switching.{switch_begins}
use Rattle.wjs_direct.proofs.+direct.Goals as goal

-- ---- statements

-- at once

pub statement-returns-in-Some-clause-does : goal.statements::statement-returns-in-Some-clause-does
statement-returns-in-Some-clause-does g t c =
    let m = g.S.WorldStore.meaning in
    let old = c.args.config.now in
    let s = c.args.stops.now in
    let f = c.args.frame.now in
    let mid = c.statement_at_once.new.config in
    let D : Option Completion → Type 0 = λ o. IfSome o (λ e. Does m (goal_here m old f (AtStmt c.args.node.0)) (λ t. completion_in t e) old mid) in
    did m completion_in (goal_here m old f (AtStmt c.args.node.0)) c.in-Some.end s.waits s.top old mid (subst D c.in-Some.is c.in_ok-done.ensures.does)

pub statement-returns-in-Some-clause-later : goal.statements::statement-returns-in-Some-clause-later
statement-returns-in-Some-clause-later g t c = c.in_ok-done.ensures.later

pub statement-returns-in-Some-clause-found : goal.statements::statement-returns-in-Some-clause-found
statement-returns-in-Some-clause-found g t c =
    let H : Option Completion → Type 0 = λ o. IfSome o (λ e. HasCompletion c.statement_at_once.new.config e) in
    (subst H c.in-Some.is c.in_ok-done.ensures.found, c.requires.empty)

-- by its form

pub statement-by_form-requires : goal.statements::statement-by_form-requires
statement-by_form-requires g t c =
    let m = g.S.WorldStore.meaning in
    let old = c.args.config.now in
    let f = c.args.frame.now in
    let mid = c.statement_at_once.new.config in
    let l = c.in_ok-done.ensures.later in
    let base : Base m mid = l.base in
    let there : IsThere m mid f = l.frames f c.requires.there in
    let node : StandsHere mid f c.args.node = stands_later m old f mid c.args.node l c.requires.node in
    search (rules, base, there, node)

pub statement-returns-clause-later : goal.statements::statement-returns-clause-later
statement-returns-clause-later g t c =
    later_then g.S.WorldStore.meaning c.args.config.now c.statement_at_once.new.config c.by_form.new.config c.by_form.result c.in_ok-done.ensures.later c.by_form.ensures.later

pub statement-returns-clause-does : goal.statements::statement-returns-clause-does
statement-returns-clause-does g t c =
    let same = subst (λ (o : Option Completion). IfNone o (c.statement_at_once.new.config ≡ c.args.config.now)) c.in_default.is c.in_ok-done.ensures.same in
    let m = g.S.WorldStore.meaning in
    let s = c.by_form.new.stops in
    subst (λ (x : Config g.row.S.Denot). Evaluates m (goal_here m x c.args.frame.now (AtStmt c.args.node.0)) completion_in c.by_form.result s.waits s.top x c.by_form.new.config) same c.by_form.ensures.does

-- not entered

pub by_form-returns-then-not-may_evaluate-clause-later : goal.statements::by_form-returns-then-not-may_evaluate-clause-later
by_form-returns-then-not-may_evaluate-clause-later g t c =
    later_stopped g.S.WorldStore.meaning {A = Completion} c.args.config.now c.stop.new.config (Err c.stop.result) c.requires.base c.stop.ensures.same

pub by_form-returns-then-not-may_evaluate-clause-found : goal.statements::by_form-returns-then-not-may_evaluate-clause-found
by_form-returns-then-not-may_evaluate-clause-found g t c =
    let s = c.stop.new.stops in
    stop_found g.S.WorldStore.meaning c.args.config.now c.stop.new.config c.args.frame.now c.args.node [] (phases.Due starts.Stmt) c.stop.result s.waits s.top c.stop.ensures.same
    c.requires.there c.requires.node tt tt c.stop.ensures.stops

pub by_form-returns-then-not-may_evaluate-clause-does : goal.statements::by_form-returns-then-not-may_evaluate-clause-does
by_form-returns-then-not-may_evaluate-clause-does g t c =
    let s = c.stop.new.stops in
    due_does g.S.WorldStore.meaning completion_in c.args.config.now c.stop.new.config c.args.frame.now c.stop.result s.waits s.top c.stop.ensures.same (part.Stmt c.args.node) c.stop.ensures.stops

-- entered

pub by_form-statement_form-requires : goal.statements::by_form-statement_form-requires
by_form-statement_form-requires g t c =
    let m = g.S.WorldStore.meaning in
    let old = c.args.config.now in
    let f = c.args.frame.now in
    let now = record old { left = old.left - 1 } in
    let l = later_left m old (old.left - 1) c.requires.base in
    let some = c.may_evaluate.ensures.room c.if-not-may_evaluate.false in
    let base : Base m now = l.base in
    let there : IsThere m now f = l.frames f c.requires.there in
    let node : StandsHere now f c.args.node = stands_later m old f now c.args.node l c.requires.node in
    search (rules, some, base, there, node)

pub by_form-returns-clause-later : goal.statements::by_form-returns-clause-later
by_form-returns-clause-later g t c =
    let m = g.S.WorldStore.meaning in
    let old = c.args.config.now in
    later_then m old (record old { left = old.left - 1 }) c.statement_form.new.config c.statement_form.result (later_left m old (old.left - 1) c.requires.base) c.statement_form.ensures.later

pub by_form-returns-clause-does : goal.statements::by_form-returns-clause-does
by_form-returns-clause-does g t c =
    let old = c.args.config.now in
    let s = c.statement_form.new.stops in
    step_does g.S.WorldStore.meaning completion_in old old c.statement_form.new.config c.args.frame.now (AtStmt c.args.node.0) c.statement_form.result s.waits s.top refl
    (c.may_evaluate.ensures.left c.if-not-may_evaluate.false) c.statement_form.ensures.does

-- what follows the step of its entry

pub statement_form-expression-requires : goal.statements::statement_form-expression-requires
statement_form-expression-requires g t c =
    let m = g.S.WorldStore.meaning in
    let old = c.args.config.now in
    let f = c.args.frame.now in
    let s = c.in-Some-Expr in
    let part : StandsHere old f s.e = stands_here m old (at_node f c.args.node []) _ s.e (node_there m old f c.args.node [] c.requires.there c.requires.node tt) (s.ensures ∙ s.field-0-is) (inl refl) in
    search (rules, part)

pub statement_form-returns-in-Some-Expr-clause-does : goal.statements::statement_form-returns-in-Some-Expr-clause-does
statement_form-returns-in-Some-Expr-clause-does g t c =
    let m = g.S.WorldStore.meaning in
    let old = c.args.config.now in
    let f = c.args.frame.now in
    let s = c.in-Some-Expr in
    let k = c.expression.new.stops in
    line_form m completion_in old c.expression.new.config f (λ t env. entry (AtStmt c.args.node.0) env) c.expression.result k.waits k.top (AtExpr s.e.0) (λ t env. then_value statements.expr_done)
    (λ t more. stmt_is m old f c.args.node _ t (s.ensures ∙ s.field-0-is)) c.expression.ensures.does

pub statement_form-returns-in-Some-If-clause-does : goal.statements::statement_form-returns-in-Some-If-clause-does
statement_form-returns-in-Some-If-clause-does g t c =
    let m = g.S.WorldStore.meaning in
    let old = c.args.config.now in
    let f = c.args.frame.now in
    let s = c.in-Some-If in
    let k = c.condition.new.stops in
    line_form m completion_in old c.condition.new.config f (λ t env. entry (AtStmt c.args.node.0) env) c.condition.result k.waits k.top (AtExpr s.test.0) (λ t env. then_value (statements.if_test s.yes.0 (number s.no) env))
    (λ t more. stmt_is m old f c.args.node _ t (s.ensures ∙ s.field-0-is)) c.condition.ensures.does

pub statement_form-result_of-requires : goal.statements::statement_form-result_of-requires
statement_form-result_of-requires g t c =
    let m = g.S.WorldStore.meaning in
    let old = c.args.config.now in
    let f = c.args.frame.now in
    let s = c.in-Some-Return-Some-default in
    let is = s.ensures ∙ s.field-0-is ∙ ap (λ (o : Option NodeId). nodes.Return o s.field-0-1) s.field-0-0-is in
    let part : StandsHere old f s.e = stands_here m old (at_node f c.args.node []) (nodes.Return (Some s.e) s.field-0-1) s.e (node_there m old f c.args.node [] c.requires.there c.requires.node tt) is (inl refl) in
    search (rules, part)

pub statement_form-returns-in-Some-Return-Some-default-clause-does : goal.statements::statement_form-returns-in-Some-Return-Some-default-clause-does
statement_form-returns-in-Some-Return-Some-default-clause-does g t c =
    let m = g.S.WorldStore.meaning in
    let old = c.args.config.now in
    let f = c.args.frame.now in
    let s = c.in-Some-Return-Some-default in
    let k = c.result_of.new.stops in
    let is = s.ensures ∙ s.field-0-is ∙ ap (λ (o : Option NodeId). nodes.Return o s.field-0-1) s.field-0-0-is in
    line_form m completion_in old c.result_of.new.config f (λ t env. entry (AtStmt c.args.node.0) env) c.result_of.result k.waits k.top (AtExpr s.e.0) (λ t env. then_value statements.return_value)
    (λ t more. stmt_is m old f c.args.node (nodes.Return (Some s.e) s.field-0-1) t is) c.result_of.ensures.does

pub statement_form-returns-in-Some-Block-clause-does : goal.statements::statement_form-returns-in-Some-Block-clause-does
statement_form-returns-in-Some-Block-clause-does g t c =
    let m = g.S.WorldStore.meaning in
    let old = c.args.config.now in
    let f = c.args.frame.now in
    let k = c.run_block.new.stops in
    line_as m completion_in old c.run_block.new.config f (λ t env. entry (AtStmt c.args.node.0) env) c.run_block.result k.waits k.top (rest_from m kinds.Block f c.args.node old 0)
    (λ t more. stmt_is m old f c.args.node _ t refl ∙ block_begins t _ _ c.args.node.0 (env_in m old t f) (c.in-Some-Block.ensures ∙ c.in-Some-Block.field-0-is)) c.run_block.ensures.does

pub statement_form-returns-in_default-clause-later : goal.statements::statement_form-returns-in_default-clause-later
statement_form-returns-in_default-clause-later g t c = later_stopped g.S.WorldStore.meaning {A = Completion} c.args.config.now c.stop.new.config (Err c.stop.result) c.requires.base c.stop.ensures.same

pub statement_form-returns-in_default-clause-found : goal.statements::statement_form-returns-in_default-clause-found
statement_form-returns-in_default-clause-found g t c =
    let s = c.stop.new.stops in
    stop_found g.S.WorldStore.meaning c.args.config.now c.stop.new.config c.args.frame.now c.args.node [] (phases.Ready starts.Stmt) c.stop.result s.waits s.top c.stop.ensures.same
    c.requires.there c.requires.node tt tt c.stop.ensures.stops

pub statement_form-returns-in_default-clause-does : goal.statements::statement_form-returns-in_default-clause-does
statement_form-returns-in_default-clause-does g t c =
    let s = c.stop.new.stops in
    ready_does g.S.WorldStore.meaning completion_in c.args.config.now c.stop.new.config c.args.frame.now c.stop.result s.waits s.top c.stop.ensures.same (part.Stmt c.args.node) c.stop.ensures.stops

-- an expression, and the end of its statement
-- `if`

pub condition-value-requires : goal.statements::condition-value-requires
condition-value-requires g t c =
    let m = g.S.WorldStore.meaning in
    let old = c.args.config.now in
    let f = c.args.frame.now in
    let test : StandsHere old f c.args.test = stands_here m old (at_node f c.args.node []) (nodes.If c.args.test c.args.yes c.args.no) c.args.test (node_there m old f c.args.node [] c.requires.there c.requires.node tt) c.requires.is (inl refl) in
    search (rules, test)

pub condition-to_boolean-requires : goal.statements::condition-to_boolean-requires
condition-to_boolean-requires g t c = record { base = c.in-Ok.ensures.later.base; value = c.in-Ok.ensures.found.0 }

pub condition-statement-requires : goal.statements::condition-statement-requires
condition-statement-requires g t c =
    let m = g.S.WorldStore.meaning in
    let old = c.args.config.now in
    let f = c.args.frame.now in
    let mid = c.value.new.config in
    let l = c.in-Ok.ensures.later in
    let base : Base m mid = l.base in
    let there : IsThere m mid f = l.frames f c.requires.there in
    let empty : c.value.new.stops.waits ≡ [] = c.in-Ok.ensures.found.1 in
    let part : StandsHere mid f c.args.yes = stands_later m old f mid c.args.yes l
    (stands_here m old (at_node f c.args.node []) (nodes.If c.args.test c.args.yes c.args.no) c.args.yes (node_there m old f c.args.node [] c.requires.there c.requires.node tt) c.requires.is (inr (inl refl))) in
    search (rules, base, there, empty, part)

pub condition-returns-then-to_boolean-clause-later : goal.statements::condition-returns-then-to_boolean-clause-later
condition-returns-then-to_boolean-clause-later g t c =
    later_then g.S.WorldStore.meaning c.args.config.now c.value.new.config c.statement.new.config c.statement.result c.in-Ok.ensures.later c.statement.ensures.later

pub condition-returns-then-to_boolean-clause-does : goal.statements::condition-returns-then-to_boolean-clause-does
condition-returns-then-to_boolean-clause-does g t c =
    let m = g.S.WorldStore.meaning in
    let mid = c.value.new.config in
    let new = c.statement.new.config in
    let f = c.args.frame.now in
    let v = c.in-Ok.truth in
    let s = c.value.new.stops in
    let k = c.statement.new.stops in
    form_goes_on m gives_in completion_in c.args.config.now mid new f (AtExpr c.args.test.0) (λ t env. then_value (statements.if_test c.args.yes.0 (number c.args.no) env)) v
    c.statement.result s.waits s.top k.waits k.top c.in-Ok.ensures.later c.in-Ok.ensures.does
    (line_last m completion_in mid new f (λ t env. statements.if_test c.args.yes.0 (number c.args.no) env (value_in t v)) c.statement.result k.waits k.top (AtStmt c.args.yes.0)
    (λ t more. if_yes c.args.yes.0 (number c.args.no) (env_in m mid t f) (value_in t v) (c.to_boolean.ensures t more ∙ c.if-to_boolean.true)) c.statement.ensures.does)

pub condition-statement-requires-in-Some : goal.statements::condition-statement-requires-in-Some
condition-statement-requires-in-Some g t c =
    let m = g.S.WorldStore.meaning in
    let old = c.args.config.now in
    let f = c.args.frame.now in
    let mid = c.value.new.config in
    let l = c.in-Ok.ensures.later in
    let base : Base m mid = l.base in
    let there : IsThere m mid f = l.frames f c.requires.there in
    let empty : c.value.new.stops.waits ≡ [] = c.in-Ok.ensures.found.1 in
    let part : StandsHere mid f c.in-Some.other = subst (λ (o : Option NodeId). StandsIf mid f o) c.in-Some.is
    (stands_if_later m old f mid c.args.no l (else_stands m old f c.args.node c.args.test c.args.yes c.args.no f.node c.requires.there c.requires.node c.requires.is)) in
    search (rules, base, there, empty, part)

pub condition-returns-in-Some-clause-later : goal.statements::condition-returns-in-Some-clause-later
condition-returns-in-Some-clause-later g t c =
    later_then g.S.WorldStore.meaning c.args.config.now c.value.new.config c.statement-in-Some.new.config c.statement-in-Some.result c.in-Ok.ensures.later c.statement-in-Some.ensures.later

pub condition-returns-in-Some-clause-does : goal.statements::condition-returns-in-Some-clause-does
condition-returns-in-Some-clause-does g t c =
    let m = g.S.WorldStore.meaning in
    let mid = c.value.new.config in
    let new = c.statement-in-Some.new.config in
    let f = c.args.frame.now in
    let v = c.in-Ok.truth in
    let s = c.value.new.stops in
    let k = c.statement-in-Some.new.stops in
    form_goes_on m gives_in completion_in c.args.config.now mid new f (AtExpr c.args.test.0) (λ t env. then_value (statements.if_test c.args.yes.0 (number c.args.no) env)) v
    c.statement-in-Some.result s.waits s.top k.waits k.top c.in-Ok.ensures.later c.in-Ok.ensures.does
    (line_last m completion_in mid new f (λ t env. statements.if_test c.args.yes.0 (number c.args.no) env (value_in t v)) c.statement-in-Some.result k.waits k.top (AtStmt c.in-Some.other.0)
    (λ t more. if_no c.args.yes.0 (number c.args.no) (env_in m mid t f) (value_in t v) (c.to_boolean.ensures t more ∙ c.if-to_boolean.false) ∙ ap (λ (o : Option NodeId). statements.else_of (number o) (env_in m mid t f)) c.in-Some.is) c.statement-in-Some.ensures.does)

pub condition-returns-in-None-clause-later : goal.statements::condition-returns-in-None-clause-later
condition-returns-in-None-clause-later g t c = c.in-Ok.ensures.later

pub condition-returns-in-None-clause-found : goal.statements::condition-returns-in-None-clause-found
condition-returns-in-None-clause-found g t c = (tt, c.in-Ok.ensures.found.1)

pub condition-returns-in-None-clause-does : goal.statements::condition-returns-in-None-clause-does
condition-returns-in-None-clause-does g t c =
    let m = g.S.WorldStore.meaning in
    let mid = c.value.new.config in
    let f = c.args.frame.now in
    let v = c.in-Ok.truth in
    let s = c.value.new.stops in
    form_goes_on m gives_in completion_in c.args.config.now mid mid f (AtExpr c.args.test.0) (λ t env. then_value (statements.if_test c.args.yes.0 (number c.args.no) env)) v
    (Ok completions.Normal) s.waits s.top s.waits s.top c.in-Ok.ensures.later c.in-Ok.ensures.does
    (line_ended m completion_in mid f (λ t env. statements.if_test c.args.yes.0 (number c.args.no) env (value_in t v)) completions.Normal s.waits s.top
    (λ t more env. shorten_as _ _ (if_no c.args.yes.0 (number c.args.no) env (value_in t v) (c.to_boolean.ensures t more ∙ c.if-to_boolean.false) ∙ ap (λ (o : Option NodeId). statements.else_of (number o) env) c.in-None.is)))

-- blocks

pub run_block-loop-part-init : goal.statements::run_block-loop-part-init
run_block-loop-part-init g t c = record {
  left = record { by = λ go later r h. h };
  later = later_same g.S.WorldStore.meaning c.args.config.now c.requires.base;
  empty = c.requires.empty;
}

pub run_block-statement-requires : goal.statements::run_block-statement-requires
run_block-statement-requires g t c =
    let m = g.S.WorldStore.meaning in
    let old = c.args.config.now in
    let f = c.args.frame.now in
    let mid = c.loop-part.config in
    let l = c.loop-part.invariant.later in
    let base : Base m mid = l.base in
    let there : IsThere m mid f = l.frames f c.requires.there in
    let node : StandsHere mid f c.in-Some.part = element_stands m mid (at_node f c.args.node []) kinds.Block c.loop-part.at c.in-Some.part l.base (node_there m mid f c.args.node [] there (stands_later m old f mid c.args.node l c.requires.node) tt) tt
    (λ t. statement_is t (node_among mid.units.items f.tree c.args.node) c.loop-part.at (Some c.in-Some.part) c.in-Some.ensures) in
    let empty : c.loop-part.stops.waits ≡ [] = c.loop-part.invariant.empty in
    search (rules, base, there, node, empty)

pub run_block-loop-part-preserved : goal.statements::run_block-loop-part-preserved
run_block-loop-part-preserved g t c =
    let m = g.S.WorldStore.meaning in
    let old = c.args.config.now in
    let mid = c.loop-part.config in
    let new = c.statement.new.config in
    let f = c.args.frame.now in
    let inv = c.loop-part.invariant in
    let k = c.statement.new.stops in
    let e = c.in-Ok in
    let done = subst (λ (x : Completion). Evaluates m (goal_here m mid f (AtStmt c.in-Some.part.0)) completion_in (Ok x) k.waits k.top mid new) c.in-Normal.is e.ensures.does in
    record {
      left = element_passed m kinds.Block f c.args.node mid new c.loop-part.at c.in_ok-next.next c.in-Some.part k.waits k.top c.in_ok-next.ensures
          (λ t. statement_is t (node_among mid.units.items f.tree c.args.node) c.loop-part.at (Some c.in-Some.part) c.in-Some.ensures) old c.args.from inv.later inv.left done;
      later = later_twice m old mid new inv.later e.ensures.later;
      empty = e.ensures.found.1;
    }

pub run_block-returns-in_default-end-clause-later : goal.statements::run_block-returns-in_default-end-clause-later
run_block-returns-in_default-end-clause-later g t c = later_twice g.S.WorldStore.meaning c.args.config.now c.loop-part.config c.statement.new.config c.loop-part.invariant.later c.in-Ok.ensures.later

pub run_block-returns-in_default-end-clause-does : goal.statements::run_block-returns-in_default-end-clause-does
run_block-returns-in_default-end-clause-does g t c =
    let m = g.S.WorldStore.meaning in
    let old = c.args.config.now in
    let mid = c.loop-part.config in
    let new = c.statement.new.config in
    let f = c.args.frame.now in
    let inv = c.loop-part.invariant in
    let k = c.statement.new.stops in
    let at = c.loop-part.at in
    let next = c.in_ok-next.next in
    let part = c.in-Some.part in
    let end = c.in-Ok.end in
    let is : (t : Table) → NextIs (block_items (node_in t (node_among mid.units.items f.tree c.args.node))) at (Some part) = λ t. statement_is t (node_among mid.units.items f.tree c.args.node) at (Some part) c.in-Some.ensures in
    rest_all m kinds.Block f c.args.node completion_in old mid new c.args.from at (Ok end) k.waits k.top inv.later inv.left
    (element_form m kinds.Block f c.args.node mid new at next part k.waits k.top c.in_ok-next.ensures is completion_in (Ok end)
    (form_ends m completion_in completion_in mid new f (AtStmt part.0) (element_then m kinds.Block f c.args.node mid new at next part k.waits k.top c.in_ok-next.ensures is) end end k.waits k.top k.waits k.top
    c.in-Ok.ensures.later c.in-Ok.ensures.does (λ t env. not_normal t end _ c.in_default-end.not-Normal)))

pub run_block-returns-in-Err-clause-later : goal.statements::run_block-returns-in-Err-clause-later
run_block-returns-in-Err-clause-later g t c =
    let m = g.S.WorldStore.meaning in
    let mid = c.loop-part.config in
    let new = c.statement.new.config in
    let s = c.statement.new.stops in
    let k = c.waits.new.stops in
    later_then m {A = Completion} c.args.config.now mid c.waits.new.config (Err c.waits.result) c.loop-part.invariant.later
    (broke_later m Completion Completion mid new c.waits.new.config c.args.frame.now c.args.node [] (points.Stmt (stmt.BlockStatement c.in_ok-next.next)) c.in-Err.end s.waits s.top c.waits.result k.waits k.top c.waits.ensures.same c.waits.ensures.waits c.in-Err.ensures.later)

pub run_block-returns-in-Err-clause-found : goal.statements::run_block-returns-in-Err-clause-found
run_block-returns-in-Err-clause-found g t c =
    let m = g.S.WorldStore.meaning in
    let old = c.args.config.now in
    let mid = c.loop-part.config in
    let new = c.statement.new.config in
    let f = c.args.frame.now in
    let l = c.loop-part.invariant.later in
    let s = c.statement.new.stops in
    let k = c.waits.new.stops in
    broke_found m Completion Completion mid new c.waits.new.config f c.args.node [] (points.Stmt (stmt.BlockStatement c.in_ok-next.next)) c.in-Err.end s.waits s.top c.waits.result k.waits k.top c.waits.ensures.same c.waits.ensures.waits c.in-Err.ensures.later
    (l.frames f c.requires.there) (stands_later m old f mid c.args.node l c.requires.node) tt tt c.in-Err.ensures.found

pub run_block-returns-in-Err-clause-does : goal.statements::run_block-returns-in-Err-clause-does
run_block-returns-in-Err-clause-does g t c =
    let m = g.S.WorldStore.meaning in
    let old = c.args.config.now in
    let mid = c.loop-part.config in
    let new = c.statement.new.config in
    let last = c.waits.new.config in
    let f = c.args.frame.now in
    let inv = c.loop-part.invariant in
    let s = c.statement.new.stops in
    let k = c.waits.new.stops in
    let at = c.loop-part.at in
    let next = c.in_ok-next.next in
    let part = c.in-Some.part in
    let is : (t : Table) → NextIs (block_items (node_in t (node_among mid.units.items f.tree c.args.node))) at (Some part) = λ t. statement_is t (node_among mid.units.items f.tree c.args.node) at (Some part) c.in-Some.ensures in
    let go = element_then m kinds.Block f c.args.node mid new at next part s.waits s.top c.in_ok-next.ensures is in
    rest_all m kinds.Block f c.args.node completion_in old mid last c.args.from at (Err c.waits.result) k.waits k.top inv.later inv.left
    (element_form m kinds.Block f c.args.node mid last at next part k.waits k.top c.in_ok-next.ensures is completion_in (Err c.waits.result)
    (broke_does m Completion Completion mid new last f c.args.node [] (points.Stmt (stmt.BlockStatement next)) c.in-Err.end s.waits s.top c.waits.result k.waits k.top c.waits.ensures.same c.waits.ensures.waits completion_in completion_in (AtStmt part.0) go
    (waits_then m kinds.Block f c.args.node mid new at next part s.waits s.top c.in_ok-next.ensures is) (λ t env e. refl) c.in-Err.ensures.later c.in-Err.ensures.does))

pub run_block-returns-clause-does : goal.statements::run_block-returns-clause-does
run_block-returns-clause-does g t c =
    let m = g.S.WorldStore.meaning in
    let mid = c.loop-part.config in
    let f = c.args.frame.now in
    let inv = c.loop-part.invariant in
    let s = c.loop-part.stops in
    let at = c.loop-part.at in
    rest_all m kinds.Block f c.args.node completion_in c.args.config.now mid mid c.args.from at (Ok completions.Normal) s.waits s.top inv.later inv.left
    (rest_ended m kinds.Block f c.args.node completion_in mid at completions.Normal s.waits s.top (λ t. statement_is t (node_among mid.units.items f.tree c.args.node) at None c.in_default.ensures) (λ t. refl))

pub condition-returns-in-Err-clause-later : goal.statements::condition-returns-in-Err-clause-later
condition-returns-in-Err-clause-later g t c =
    let m = g.S.WorldStore.meaning in
    let s = c.value.new.stops in
    let k = c.waits.new.stops in
    broke_later m Value Completion c.args.config.now c.value.new.config c.waits.new.config c.args.frame.now c.args.node [] (points.Stmt (stmt.IfTest c.args.yes c.args.no)) c.in-Err.end s.waits s.top c.waits.result k.waits k.top
    c.waits.ensures.same c.waits.ensures.waits c.in-Err.ensures.later

pub condition-returns-in-Err-clause-found : goal.statements::condition-returns-in-Err-clause-found
condition-returns-in-Err-clause-found g t c =
    let m = g.S.WorldStore.meaning in
    let s = c.value.new.stops in
    let k = c.waits.new.stops in
    broke_found m Value Completion c.args.config.now c.value.new.config c.waits.new.config c.args.frame.now c.args.node [] (points.Stmt (stmt.IfTest c.args.yes c.args.no)) c.in-Err.end s.waits s.top c.waits.result k.waits k.top
    c.waits.ensures.same c.waits.ensures.waits c.in-Err.ensures.later c.requires.there c.requires.node tt (stands_here m c.args.config.now (at_node c.args.frame.now c.args.node []) (nodes.If c.args.test c.args.yes c.args.no) c.args.yes (node_there m c.args.config.now c.args.frame.now c.args.node [] c.requires.there c.requires.node tt) c.requires.is (inr (inl refl)), else_stands m c.args.config.now c.args.frame.now c.args.node c.args.test c.args.yes c.args.no c.args.node c.requires.there c.requires.node c.requires.is) c.in-Err.ensures.found

pub condition-returns-in-Err-clause-does : goal.statements::condition-returns-in-Err-clause-does
condition-returns-in-Err-clause-does g t c =
    let m = g.S.WorldStore.meaning in
    let s = c.value.new.stops in
    let k = c.waits.new.stops in
    broke_does m Value Completion c.args.config.now c.value.new.config c.waits.new.config c.args.frame.now c.args.node [] (points.Stmt (stmt.IfTest c.args.yes c.args.no)) c.in-Err.end s.waits s.top c.waits.result k.waits k.top
    c.waits.ensures.same c.waits.ensures.waits gives_in completion_in (AtExpr c.args.test.0) (λ t env. then_value (statements.if_test c.args.yes.0 (number c.args.no) env)) (λ l t env. refl) (λ t env e. refl) c.in-Err.ensures.later c.in-Err.ensures.does

pub expression-returns-in-Ok-clause-does : goal.statements::expression-returns-in-Ok-clause-does
expression-returns-in-Ok-clause-does g t c =
    let s = c.effect.new.stops in
    form_ends g.S.WorldStore.meaning completion_in completion_in c.args.config.now c.effect.new.config c.args.frame.now (AtExpr c.args.e.0) (λ t env. then_value statements.expr_done) c.in-Ok.end c.dropped.result s.waits s.top s.waits s.top
    c.in-Ok.ensures.later c.in-Ok.ensures.does (λ t env. dropped_is t c.in-Ok.end ∙ ap (λ (e : Completion). Ret (completion_in t e)) (sym c.dropped.ensures))

pub expression-returns-in-Ok-clause-found : goal.statements::expression-returns-in-Ok-clause-found
expression-returns-in-Ok-clause-found g t c =
    (subst (λ (e : Completion). HasCompletion c.effect.new.config e) (sym c.dropped.ensures) (dropped_there c.effect.new.config c.in-Ok.end c.in-Ok.ensures.found.0), c.in-Ok.ensures.found.1)

pub expression-returns-in-Err-clause-later : goal.statements::expression-returns-in-Err-clause-later
expression-returns-in-Err-clause-later g t c =
    let m = g.S.WorldStore.meaning in
    let s = c.effect.new.stops in
    let k = c.waits.new.stops in
    broke_later m Completion Completion c.args.config.now c.effect.new.config c.waits.new.config c.args.frame.now c.args.node [] (points.Stmt stmt.ExprValue) c.in-Err.end s.waits s.top c.waits.result k.waits k.top
    c.waits.ensures.same c.waits.ensures.waits c.in-Err.ensures.later

pub expression-returns-in-Err-clause-found : goal.statements::expression-returns-in-Err-clause-found
expression-returns-in-Err-clause-found g t c =
    let m = g.S.WorldStore.meaning in
    let s = c.effect.new.stops in
    let k = c.waits.new.stops in
    broke_found m Completion Completion c.args.config.now c.effect.new.config c.waits.new.config c.args.frame.now c.args.node [] (points.Stmt stmt.ExprValue) c.in-Err.end s.waits s.top c.waits.result k.waits k.top
    c.waits.ensures.same c.waits.ensures.waits c.in-Err.ensures.later c.requires.there c.requires.node tt tt c.in-Err.ensures.found

pub expression-returns-in-Err-clause-does : goal.statements::expression-returns-in-Err-clause-does
expression-returns-in-Err-clause-does g t c =
    let m = g.S.WorldStore.meaning in
    let s = c.effect.new.stops in
    let k = c.waits.new.stops in
    broke_does m Completion Completion c.args.config.now c.effect.new.config c.waits.new.config c.args.frame.now c.args.node [] (points.Stmt stmt.ExprValue) c.in-Err.end s.waits s.top c.waits.result k.waits k.top
    c.waits.ensures.same c.waits.ensures.waits completion_in completion_in (AtExpr c.args.e.0) (λ t env. then_value statements.expr_done) (λ l t env. refl) (λ t env e. refl) c.in-Err.ensures.later c.in-Err.ensures.does

pub result_of-returns-in-Ok-clause-does : goal.statements::result_of-returns-in-Ok-clause-does
result_of-returns-in-Ok-clause-does g t c =
    let s = c.effect.new.stops in
    form_ends g.S.WorldStore.meaning completion_in completion_in c.args.config.now c.effect.new.config c.args.frame.now (AtExpr c.args.e.0) (λ t env. then_value statements.return_value) c.in-Ok.end c.returned.result s.waits s.top s.waits s.top
    c.in-Ok.ensures.later c.in-Ok.ensures.does (λ t env. returned_is t c.in-Ok.end ∙ ap (λ (e : Completion). Ret (completion_in t e)) (sym c.returned.ensures))

pub result_of-returns-in-Ok-clause-found : goal.statements::result_of-returns-in-Ok-clause-found
result_of-returns-in-Ok-clause-found g t c =
    (subst (λ (e : Completion). HasCompletion c.effect.new.config e) (sym c.returned.ensures) (returned_there c.effect.new.config c.in-Ok.end c.in-Ok.ensures.found.0), c.in-Ok.ensures.found.1)

pub result_of-returns-in-Err-clause-later : goal.statements::result_of-returns-in-Err-clause-later
result_of-returns-in-Err-clause-later g t c =
    let m = g.S.WorldStore.meaning in
    let s = c.effect.new.stops in
    let k = c.waits.new.stops in
    broke_later m Completion Completion c.args.config.now c.effect.new.config c.waits.new.config c.args.frame.now c.args.node [] (points.Stmt stmt.ReturnValue) c.in-Err.end s.waits s.top c.waits.result k.waits k.top
    c.waits.ensures.same c.waits.ensures.waits c.in-Err.ensures.later

pub result_of-returns-in-Err-clause-found : goal.statements::result_of-returns-in-Err-clause-found
result_of-returns-in-Err-clause-found g t c =
    let m = g.S.WorldStore.meaning in
    let s = c.effect.new.stops in
    let k = c.waits.new.stops in
    broke_found m Completion Completion c.args.config.now c.effect.new.config c.waits.new.config c.args.frame.now c.args.node [] (points.Stmt stmt.ReturnValue) c.in-Err.end s.waits s.top c.waits.result k.waits k.top
    c.waits.ensures.same c.waits.ensures.waits c.in-Err.ensures.later c.requires.there c.requires.node tt tt c.in-Err.ensures.found

pub result_of-returns-in-Err-clause-does : goal.statements::result_of-returns-in-Err-clause-does
result_of-returns-in-Err-clause-does g t c =
    let m = g.S.WorldStore.meaning in
    let s = c.effect.new.stops in
    let k = c.waits.new.stops in
    broke_does m Completion Completion c.args.config.now c.effect.new.config c.waits.new.config c.args.frame.now c.args.node [] (points.Stmt stmt.ReturnValue) c.in-Err.end s.waits s.top c.waits.result k.waits k.top
    c.waits.ensures.same c.waits.ensures.waits completion_in completion_in (AtExpr c.args.e.0) (λ t env. then_value statements.return_value) (λ l t env. refl) (λ t env e. refl) c.in-Err.ensures.later c.in-Err.ensures.does

-- where they begin

pub statement_form-returns-in-Some-Var-clause-does : goal.statements::statement_form-returns-in-Some-Var-clause-does
statement_form-returns-in-Some-Var-clause-does g t c =
    let m = g.S.WorldStore.meaning in
    let old = c.args.config.now in
    let f = c.args.frame.now in
    let s = c.in-Some-Var in
    let k = c.run_variables.new.stops in
    line_as m completion_in old c.run_variables.new.config f (λ t env. entry (AtStmt c.args.node.0) env) c.run_variables.result k.waits k.top (variables_left old f c.args.node 0)
    (λ t more. stmt_is m old f c.args.node _ t refl ∙ var_begins t _ _ _ c.args.node.0 (env_in m old t f) (s.ensures ∙ s.field-0-is)) c.run_variables.ensures.does

pub statement_form-for_variables-requires : goal.statements::statement_form-for_variables-requires
statement_form-for_variables-requires g t c =
    let m = g.S.WorldStore.meaning in
    let old = c.args.config.now in
    let f = c.args.frame.now in
    let s = c.in-Some-For-Var-default-default-default in
    let is : DeclaresFirst m old f c.args.node s.test s.update s.body = (_, s.ensures ∙ s.field-0-is ∙ ap (λ (i : ForInit). nodes.For i s.test s.update s.body) s.field-0-0-is) in
    search (rules, is)

pub statement_form-returns-in-Some-For-Var-default-default-default-clause-does : goal.statements::statement_form-returns-in-Some-For-Var-default-default-default-clause-does
statement_form-returns-in-Some-For-Var-default-default-default-clause-does g t c =
    let m = g.S.WorldStore.meaning in
    let old = c.args.config.now in
    let f = c.args.frame.now in
    let s = c.in-Some-For-Var-default-default-default in
    let k = c.for_variables.new.stops in
    let n = s.ensures ∙ s.field-0-is ∙ ap (λ (i : ForInit). nodes.For i s.test s.update s.body) s.field-0-0-is in
    line_as m completion_in old c.for_variables.new.config f (λ t env. entry (AtStmt c.args.node.0) env) c.for_variables.result k.waits k.top
    (λ t env. Sub (variables_left old f c.args.node 0 t env) (then_normal (loops.loop_from c.args.node.0 (number s.test) (number s.update) s.body.0 env)))
    (λ t more. stmt_is m old f c.args.node _ t refl ∙ for_begins t _ _ s.test s.update s.body c.args.node.0 (env_in m old t f) n) c.for_variables.ensures.does

-- loops

pub statement_form-run_loop-requires : goal.statements::statement_form-run_loop-requires
statement_form-run_loop-requires g t c =
    let m = g.S.WorldStore.meaning in
    let old = c.args.config.now in
    let f = c.args.frame.now in
    let s = c.in-Some-While in
    let n = s.ensures ∙ s.field-0-is in
    let is : IsLoop m old f c.args.node (Some s.test) None s.body = round_is m old f c.args.node (nodes.While s.test s.body) (loop_round c.args.node (Some s.test) None s.body) (λ t env. refl) n in
    let there = node_there m old f c.args.node [] c.requires.there c.requires.node tt in
    let test : StandsHere old f s.test = stands_here m old (at_node f c.args.node []) (nodes.While s.test s.body) s.test there n (inl refl) in
    let body : StandsHere old f s.body = stands_here m old (at_node f c.args.node []) (nodes.While s.test s.body) s.body there n (inr (inl refl)) in
    search (rules, is, test, body)

pub statement_form-returns-in-Some-While-clause-does : goal.statements::statement_form-returns-in-Some-While-clause-does
statement_form-returns-in-Some-While-clause-does g t c =
    let m = g.S.WorldStore.meaning in
    let old = c.args.config.now in
    let f = c.args.frame.now in
    let s = c.in-Some-While in
    let k = c.run_loop.new.stops in
    line_as m completion_in old c.run_loop.new.config f (λ t env. entry (AtStmt c.args.node.0) env) c.run_loop.result k.waits k.top (λ t env. loops.loop_from c.args.node.0 (Some s.test.0) None s.body.0 env)
    (λ t more. stmt_is m old f c.args.node (nodes.While s.test s.body) t (s.ensures ∙ s.field-0-is)) c.run_loop.ensures.does

pub statement_form-run_loop-requires-in-Some-For-Nothing-default-default-default : goal.statements::statement_form-run_loop-requires-in-Some-For-Nothing-default-default-default
statement_form-run_loop-requires-in-Some-For-Nothing-default-default-default g t c =
    let m = g.S.WorldStore.meaning in
    let old = c.args.config.now in
    let f = c.args.frame.now in
    let s = c.in-Some-For-Nothing-default-default-default in
    let n = s.ensures ∙ s.field-0-is ∙ ap (λ (i : ForInit). nodes.For i s.test s.update s.body) s.field-0-0-is in
    let is : IsLoop m old f c.args.node s.test s.update s.body = round_is m old f c.args.node (nodes.For inits.Nothing s.test s.update s.body) (loop_round c.args.node s.test s.update s.body) (λ t env. refl) n in
    let parts = for_stands m old (at_node f c.args.node []) (node_there m old f c.args.node [] c.requires.there c.requires.node tt) inits.Nothing s.test s.update s.body n in
    let test : StandsIf old f s.test = if_stands m old f c.args.node s.test parts.0 in
    let update : StandsIf old f s.update = if_stands m old f c.args.node s.update parts.1.0 in
    let body : StandsHere old f s.body = parts.1.1 in
    search (rules, is, test, update, body)

pub statement_form-returns-in-Some-For-Nothing-default-default-default-clause-does : goal.statements::statement_form-returns-in-Some-For-Nothing-default-default-default-clause-does
statement_form-returns-in-Some-For-Nothing-default-default-default-clause-does g t c =
    let m = g.S.WorldStore.meaning in
    let old = c.args.config.now in
    let f = c.args.frame.now in
    let s = c.in-Some-For-Nothing-default-default-default in
    let r = c.run_loop-in-Some-For-Nothing-default-default-default in
    let k = r.new.stops in
    let n = s.ensures ∙ s.field-0-is ∙ ap (λ (i : ForInit). nodes.For i s.test s.update s.body) s.field-0-0-is in
    line_as m completion_in old r.new.config f (λ t env. entry (AtStmt c.args.node.0) env) r.result k.waits k.top (λ t env. loops.loop_from c.args.node.0 (number s.test) (number s.update) s.body.0 env)
    (λ t more. stmt_is m old f c.args.node (nodes.For inits.Nothing s.test s.update s.body) t n) r.ensures.does

pub statement_form-for_expression-requires : goal.statements::statement_form-for_expression-requires
statement_form-for_expression-requires g t c =
    let m = g.S.WorldStore.meaning in
    let old = c.args.config.now in
    let f = c.args.frame.now in
    let s = c.in-Some-For-Expr-default-default-default in
    let is : IsNode m old f c.args.node (nodes.For (inits.Expr s.e) s.test s.update s.body) = s.ensures ∙ s.field-0-is ∙ ap (λ (i : ForInit). nodes.For i s.test s.update s.body) s.field-0-0-is in
    let first : StandsHere old f s.e = stands_here m old (at_node f c.args.node []) (nodes.For (inits.Expr s.e) s.test s.update s.body) s.e (node_there m old f c.args.node [] c.requires.there c.requires.node tt) is (inl refl) in
    search (rules, is, first)

pub statement_form-returns-in-Some-For-Expr-default-default-default-clause-does : goal.statements::statement_form-returns-in-Some-For-Expr-default-default-default-clause-does
statement_form-returns-in-Some-For-Expr-default-default-default-clause-does g t c =
    let m = g.S.WorldStore.meaning in
    let old = c.args.config.now in
    let f = c.args.frame.now in
    let s = c.in-Some-For-Expr-default-default-default in
    let k = c.for_expression.new.stops in
    let n = s.ensures ∙ s.field-0-is ∙ ap (λ (i : ForInit). nodes.For i s.test s.update s.body) s.field-0-0-is in
    line_form m completion_in old c.for_expression.new.config f (λ t env. entry (AtStmt c.args.node.0) env) c.for_expression.result k.waits k.top (AtExpr s.e.0) (λ t env. then_value (loops.for_started c.args.node.0 (number s.test) (number s.update) s.body.0 env))
    (λ t more. stmt_is m old f c.args.node (nodes.For (inits.Expr s.e) s.test s.update s.body) t n) c.for_expression.ensures.does

pub statement_form-returns-in-Some-Within-clause-does : goal.statements::statement_form-returns-in-Some-Within-clause-does
statement_form-returns-in-Some-Within-clause-does g t c =
    let m = g.S.WorldStore.meaning in
    let old = c.args.config.now in
    let f = c.args.frame.now in
    let s = c.in-Some-Within in
    let k = c.within.new.stops in
    line_form m completion_in old c.within.new.config f (λ t env. entry (AtStmt c.args.node.0) env) c.within.result k.waits k.top (AtExpr s.e.0) (λ t env. then_value (statements.within_value s.block.0 env))
    (λ t more. stmt_is m old f c.args.node _ t (s.ensures ∙ s.field-0-is)) c.within.ensures.does

pub statement_form-throw_of-requires : goal.statements::statement_form-throw_of-requires
statement_form-throw_of-requires g t c =
    let m = g.S.WorldStore.meaning in
    let old = c.args.config.now in
    let f = c.args.frame.now in
    let s = c.in-Some-Throw in
    let part : StandsHere old f s.e = stands_here m old (at_node f c.args.node []) _ s.e (node_there m old f c.args.node [] c.requires.there c.requires.node tt) (s.ensures ∙ s.field-0-is) (inl refl) in
    search (rules, part)

pub statement_form-returns-in-Some-Throw-clause-does : goal.statements::statement_form-returns-in-Some-Throw-clause-does
statement_form-returns-in-Some-Throw-clause-does g t c =
    let m = g.S.WorldStore.meaning in
    let old = c.args.config.now in
    let f = c.args.frame.now in
    let s = c.in-Some-Throw in
    let k = c.throw_of.new.stops in
    line_form m completion_in old c.throw_of.new.config f (λ t env. entry (AtStmt c.args.node.0) env) c.throw_of.result k.waits k.top (AtExpr s.e.0) (λ t env. then_value statements.throw_value)
    (λ t more. stmt_is m old f c.args.node _ t (s.ensures ∙ s.field-0-is)) c.throw_of.ensures.does

-- `try`

pub statement_form-attempt-requires : goal.statements::statement_form-attempt-requires
statement_form-attempt-requires g t c =
    let m = g.S.WorldStore.meaning in
    let old = c.args.config.now in
    let f = c.args.frame.now in
    let s = c.in-Some-Try in
    let is = s.ensures ∙ s.field-0-is in
    let block : StandsHere old f s.block = stands_here m old (at_node f c.args.node []) _ s.block (node_there m old f c.args.node [] c.requires.there c.requires.node tt) is (inl refl) in
    let last : StandsIf old f s.last = last_stands m old f c.args.node s.block s.field-0-1 s.last c.requires.there c.requires.node is in
    search (rules, block, last)

pub statement_form-returns-in-Some-Try-clause-does : goal.statements::statement_form-returns-in-Some-Try-clause-does
statement_form-returns-in-Some-Try-clause-does g t c =
    let m = g.S.WorldStore.meaning in
    let old = c.args.config.now in
    let f = c.args.frame.now in
    let s = c.in-Some-Try in
    let k = c.attempt.new.stops in
    line_form m completion_in old c.attempt.new.config f (λ t env. entry (AtStmt c.args.node.0) env) c.attempt.result k.waits k.top (AtStmt s.block.0) (caught_here old f c.args.node s.last)
    (λ t more. stmt_is m old f c.args.node _ t refl ∙ try_begins t _ s.block s.field-0-1 s.last c.args.node.0 (env_in m old t f) (s.ensures ∙ s.field-0-is)) c.attempt.ensures.does

-- `switch`

pub statement_form-switch-requires : goal.statements::statement_form-switch-requires
statement_form-switch-requires g t c =
    let m = g.S.WorldStore.meaning in
    let old = c.args.config.now in
    let f = c.args.frame.now in
    let s = c.in-Some-Switch in
    let part : StandsHere old f s.e = stands_here m old (at_node f c.args.node []) _ s.e (node_there m old f c.args.node [] c.requires.there c.requires.node tt) (s.ensures ∙ s.field-0-is) (inl refl) in
    search (rules, part)

pub statement_form-returns-in-Some-Switch-clause-does : goal.statements::statement_form-returns-in-Some-Switch-clause-does
statement_form-returns-in-Some-Switch-clause-does g t c =
    let m = g.S.WorldStore.meaning in
    let old = c.args.config.now in
    let f = c.args.frame.now in
    let s = c.in-Some-Switch in
    let k = c.switch.new.stops in
    line_form m completion_in old c.switch.new.config f (λ t env. entry (AtStmt c.args.node.0) env) c.switch.result k.waits k.top (AtExpr s.e.0) (sought_then old f c.args.node)
    (λ t more. stmt_is m old f c.args.node _ t refl ∙ switch_begins t _ s.e _ c.args.node.0 (env_in m old t f) (s.ensures ∙ s.field-0-is)) c.switch.ensures.does

-- the loop `for`-`in`

pub statement_form-for_in-requires : goal.statements::statement_form-for_in-requires
statement_form-for_in-requires g t c =
    let m = g.S.WorldStore.meaning in
    let old = c.args.config.now in
    let f = c.args.frame.now in
    let s = c.in-Some-ForIn in
    let n = s.ensures ∙ s.field-0-is in
    let here = node_there m old f c.args.node [] c.requires.there c.requires.node tt in
    let taker : TakesNames old f c.args.node (takers.Target s.t) = ap taker_of n in
    let object : StandsHere old f s.object = stands_here m old (at_node f c.args.node []) (nodes.ForIn s.t s.object s.body) s.object here n (inr (inl refl)) in
    let body : StandsHere old f s.body = stands_here m old (at_node f c.args.node []) (nodes.ForIn s.t s.object s.body) s.body here n (inr (inr (inl refl))) in
    search (rules, taker, object, body)

pub statement_form-returns-in-Some-ForIn-clause-does : goal.statements::statement_form-returns-in-Some-ForIn-clause-does
statement_form-returns-in-Some-ForIn-clause-does g t c =
    let m = g.S.WorldStore.meaning in
    let old = c.args.config.now in
    let f = c.args.frame.now in
    let s = c.in-Some-ForIn in
    let k = c.for_in.new.stops in
    line_form m completion_in old c.for_in.new.config f (λ t env. entry (AtStmt c.args.node.0) env) c.for_in.result k.waits k.top (AtExpr s.object.0) (λ t env. then_value (over_left c.args.node (takers.Target s.t) s.body t env))
    (λ t more. stmt_is m old f c.args.node (nodes.ForIn s.t s.object s.body) t (s.ensures ∙ s.field-0-is)) c.for_in.ensures.does

pub statement_form-for_in-requires-in-Some-ForVarIn : goal.statements::statement_form-for_in-requires-in-Some-ForVarIn
statement_form-for_in-requires-in-Some-ForVarIn g t c =
    let m = g.S.WorldStore.meaning in
    let old = c.args.config.now in
    let f = c.args.frame.now in
    let s = c.in-Some-ForVarIn in
    let n = s.ensures ∙ s.field-0-is in
    let here = node_there m old f c.args.node [] c.requires.there c.requires.node tt in
    let taker : TakesNames old f c.args.node (takers.Variable s.name) = ap taker_of n in
    let object : StandsHere old f s.object = stands_here m old (at_node f c.args.node []) (nodes.ForVarIn s.name s.object s.body) s.object here n (inl refl) in
    let body : StandsHere old f s.body = stands_here m old (at_node f c.args.node []) (nodes.ForVarIn s.name s.object s.body) s.body here n (inr (inl refl)) in
    search (rules, taker, object, body)

pub statement_form-returns-in-Some-ForVarIn-clause-does : goal.statements::statement_form-returns-in-Some-ForVarIn-clause-does
statement_form-returns-in-Some-ForVarIn-clause-does g t c =
    let m = g.S.WorldStore.meaning in
    let old = c.args.config.now in
    let f = c.args.frame.now in
    let s = c.in-Some-ForVarIn in
    let r = c.for_in-in-Some-ForVarIn in
    let k = r.new.stops in
    line_form m completion_in old r.new.config f (λ t env. entry (AtStmt c.args.node.0) env) r.result k.waits k.top (AtExpr s.object.0) (λ t env. then_value (over_left c.args.node (takers.Variable s.name) s.body t env))
    (λ t more. stmt_is m old f c.args.node (nodes.ForVarIn s.name s.object s.body) t (s.ensures ∙ s.field-0-is)) r.ensures.does

-- labels, and the loop `do`

pub statement_form-returns-in-Some-Label-clause-does : goal.statements::statement_form-returns-in-Some-Label-clause-does
statement_form-returns-in-Some-Label-clause-does g t c =
    let m = g.S.WorldStore.meaning in
    let old = c.args.config.now in
    let f = c.args.frame.now in
    let s = c.in-Some-Label in
    let k = c.labelled.new.stops in
    line_form m completion_in old c.labelled.new.config f (λ t env. entry (AtStmt c.args.node.0) env) c.labelled.result k.waits k.top (AtStmt s.part.0) (λ t env. statements.label_done (text_in t s.name))
    (λ t more. stmt_is m old f c.args.node _ t (s.ensures ∙ s.field-0-is)) c.labelled.ensures.does

pub statement_form-run_do-requires : goal.statements::statement_form-run_do-requires
statement_form-run_do-requires g t c =
    let m = g.S.WorldStore.meaning in
    let old = c.args.config.now in
    let f = c.args.frame.now in
    let s = c.in-Some-DoWhile in
    let n = s.ensures ∙ s.field-0-is in
    let here = node_there m old f c.args.node [] c.requires.there c.requires.node tt in
    let is : IsDo m old f c.args.node s.body s.test = round_is m old f c.args.node (nodes.DoWhile s.body s.test s.field-0-2) (do_round c.args.node s.body s.test) (λ t env. refl) n in
    let body : StandsHere old f s.body = stands_here m old (at_node f c.args.node []) (nodes.DoWhile s.body s.test s.field-0-2) s.body here n (inl refl) in
    let test : StandsHere old f s.test = stands_here m old (at_node f c.args.node []) (nodes.DoWhile s.body s.test s.field-0-2) s.test here n (inr (inl refl)) in
    search (rules, is, body, test)

pub statement_form-returns-in-Some-DoWhile-clause-does : goal.statements::statement_form-returns-in-Some-DoWhile-clause-does
statement_form-returns-in-Some-DoWhile-clause-does g t c =
    let m = g.S.WorldStore.meaning in
    let old = c.args.config.now in
    let f = c.args.frame.now in
    let s = c.in-Some-DoWhile in
    let k = c.run_do.new.stops in
    line_form m completion_in old c.run_do.new.config f (λ t env. entry (AtStmt c.args.node.0) env) c.run_do.result k.waits k.top (AtStmt s.body.0) (λ t env. loops.do_body c.args.node.0 s.test.0 env)
    (λ t more. stmt_is m old f c.args.node _ t (s.ensures ∙ s.field-0-is)) c.run_do.ensures.does

-- what ends at once

pub statement_form-returns-in-Some-Empty-clause-later : goal.statements::statement_form-returns-in-Some-Empty-clause-later
statement_form-returns-in-Some-Empty-clause-later g t c = later_same g.S.WorldStore.meaning c.args.config.now c.requires.base

pub statement_form-returns-in-Some-Empty-clause-found : goal.statements::statement_form-returns-in-Some-Empty-clause-found
statement_form-returns-in-Some-Empty-clause-found g t c = (tt, c.requires.empty)

pub statement_form-returns-in-Some-Empty-clause-does : goal.statements::statement_form-returns-in-Some-Empty-clause-does
statement_form-returns-in-Some-Empty-clause-does g t c =
    let s = c.in-Some-Empty in
    let k = c.args.stops.now in
    end_does g.S.WorldStore.meaning c.args.config.now c.args.frame.now c.args.node nodes.Empty completions.Normal k.waits k.top (s.ensures ∙ s.field-0-is) (λ t env. refl)

pub statement_form-returns-in-Some-Break-clause-later : goal.statements::statement_form-returns-in-Some-Break-clause-later
statement_form-returns-in-Some-Break-clause-later g t c = later_same g.S.WorldStore.meaning c.args.config.now c.requires.base

pub statement_form-returns-in-Some-Break-clause-found : goal.statements::statement_form-returns-in-Some-Break-clause-found
statement_form-returns-in-Some-Break-clause-found g t c =
    let old = c.args.config.now in
    let s = c.in-Some-Break in
    (label_there old s.label (node_known old.heap.texts old.units.items c.args.frame.now.tree c.args.node (nodes.Break s.label s.field-0-1) c.requires.base.units (s.ensures ∙ s.field-0-is)), c.requires.empty)

pub statement_form-returns-in-Some-Break-clause-does : goal.statements::statement_form-returns-in-Some-Break-clause-does
statement_form-returns-in-Some-Break-clause-does g t c =
    let s = c.in-Some-Break in
    let k = c.args.stops.now in
    end_does g.S.WorldStore.meaning c.args.config.now c.args.frame.now c.args.node (nodes.Break s.label s.field-0-1) (completions.Breaks s.label) k.waits k.top (s.ensures ∙ s.field-0-is) (λ t env. refl)

pub statement_form-returns-in-Some-Continue-clause-later : goal.statements::statement_form-returns-in-Some-Continue-clause-later
statement_form-returns-in-Some-Continue-clause-later g t c = later_same g.S.WorldStore.meaning c.args.config.now c.requires.base

pub statement_form-returns-in-Some-Continue-clause-found : goal.statements::statement_form-returns-in-Some-Continue-clause-found
statement_form-returns-in-Some-Continue-clause-found g t c =
    let old = c.args.config.now in
    let s = c.in-Some-Continue in
    (label_there old s.label (node_known old.heap.texts old.units.items c.args.frame.now.tree c.args.node (nodes.Continue s.label s.field-0-1) c.requires.base.units (s.ensures ∙ s.field-0-is)), c.requires.empty)

pub statement_form-returns-in-Some-Continue-clause-does : goal.statements::statement_form-returns-in-Some-Continue-clause-does
statement_form-returns-in-Some-Continue-clause-does g t c =
    let s = c.in-Some-Continue in
    let k = c.args.stops.now in
    end_does g.S.WorldStore.meaning c.args.config.now c.args.frame.now c.args.node (nodes.Continue s.label s.field-0-1) (completions.Continues s.label) k.waits k.top (s.ensures ∙ s.field-0-is) (λ t env. refl)

pub statement_form-returns-in-Some-Return-None-default-clause-later : goal.statements::statement_form-returns-in-Some-Return-None-default-clause-later
statement_form-returns-in-Some-Return-None-default-clause-later g t c = later_same g.S.WorldStore.meaning c.args.config.now c.requires.base

pub statement_form-returns-in-Some-Return-None-default-clause-found : goal.statements::statement_form-returns-in-Some-Return-None-default-clause-found
statement_form-returns-in-Some-Return-None-default-clause-found g t c = (tt, c.requires.empty)

pub statement_form-returns-in-Some-Return-None-default-clause-does : goal.statements::statement_form-returns-in-Some-Return-None-default-clause-does
statement_form-returns-in-Some-Return-None-default-clause-does g t c =
    let s = c.in-Some-Return-None-default in
    let k = c.args.stops.now in
    end_does g.S.WorldStore.meaning c.args.config.now c.args.frame.now c.args.node (nodes.Return None s.field-0-1) (completions.Returns values.Undefined) k.waits k.top (s.ensures ∙ s.field-0-is ∙ ap (λ (o : Option NodeId). nodes.Return o s.field-0-1) s.field-0-0-is) (λ t env. refl)
