-- What holds of the functions of `loops`.
use Rattle.std.proofs.Common.{◌≡◌, ◌-◌, rules, [], Option, None, Some, refl, ap, ◌∙◌, subst}
use Rattle.std.specs.Prelude.{Ok, Err}
use Rattle.wjs_base.specs.Text.{Table}
use Rattle.wjs_base.specs.declared.ids.NodeId.{NodeId}
use Rattle.wjs_base.specs.declared.values.Value.{Value}
use Rattle.wjs_by_content.specs.Tables.{value_in}
use Rattle.wjs_by_content.specs.Values.{Value as Content}
use Rattle.wjs_tree.specs.declared.node.ForInit.TheVariants as inits
use Rattle.wjs_tree.specs.declared.node.Node.TheVariants as nodes
use Rattle.wjs_meaning.specs.Deeds.{AtExpr, AtStmt, then_value, Again, Act, Sub, Env, Completion as Meant}
use Rattle.wjs_meaning.specs.Programs.{entry}
use Rattle.wjs_meaning.specs.Reading.{number}
use Rattle.wjs_meaning.specs.Expressions.{expr_at}
use Rattle.wjs_meaning.specs.Loops as loops
use Rattle.wjs_meaning.specs.Statements.{iteration_from, stmt_at}
use Rattle.wjs_model.specs.declared.frame.Completion.{Completion}
use Rattle.wjs_model.specs.Contents.{completion_in}
use Rattle.wjs_model.specs.Soundness.{Base, HasCompletion, HasValue, IsThere, StandsHere, StandsIf}
use Rattle.wjs_model.specs.declared.config.Config.{Config}
use Rattle.wjs_model.specs.declared.frame.Completion.TheVariants as completions
use Rattle.wjs_model.specs.declared.frame.Phase.TheVariants as phases
use Rattle.wjs_model.specs.declared.point.Start.TheVariants as starts
use Rattle.wjs_model.specs.declared.point.Point.TheVariants as points
use Rattle.wjs_model.specs.declared.point.StmtPoint.TheVariants as stmt
use Rattle.wjs_frames.specs.Parts.{env_in}
use Rattle.wjs_frames.proofs.Parting.{stands_if_later, stands_later}
use Rattle.wjs_frames.specs.Following.{Later}
use Rattle.wjs_frames.specs.declared.part.Part.TheVariants as part
use Rattle.wjs_heap_steps.proofs.Later.{later_same, later_twice}
use Rattle.wjs_quick.proofs.Coming.{later_left}
use Rattle.wjs_effects.proofs.Leaving.{shorten_as}
use Rattle.wjs_effects.proofs.Passing.{value_passes}
use Rattle.wjs_effects.proofs.StandingFors.{for_stands}
use Rattle.wjs_stopping.specs.Ends.{gives_in}
use Rattle.wjs_stopping.specs.Evaluating.{Evaluates, Leaves, outcome_in}
use Rattle.wjs_stopping.specs.Waiting.{at_node}
use Rattle.wjs_direct_lines.specs.Deeds.{goal_here, line_here, entry_here, form_here}
use Rattle.wjs_stopping.proofs.Evaluating.{in_memory, leaves_all}
use Rattle.wjs_direct_lines.proofs.Forming.{form_goes_on, line_ended, node_there}
use Rattle.wjs_direct_lines.proofs.Parts.{broke_does, broke_found, broke_later, did, due_does, later_stopped, later_then, line_as, stop_found}
use Rattle.wjs_direct_lines.proofs.Assigning.{broken_as}
use Rattle.wjs_direct_lines.proofs.Nesting.{comes_behind, entry_broke, entry_left, if_here, if_stands, line_begins, line_same, part_left}
use Rattle.wjs_direct.proofs.Looping.{for_first_then, round_begun, round_due, round_ended, round_is, round_later, round_next, round_there, test_fails, test_holds}
use Rattle.wjs_direct.specs.Rounds.{HasRound, IsLoop, loop_round, round_left}
use Rattle.wjs_direct.proofs.+direct.Goals as goal

-- ---- loops

-- the first expression of a `for`

pub for_expression-run_loop-requires : goal.loops::for_expression-run_loop-requires
for_expression-run_loop-requires g t c =
    let m = g.S.WorldStore.meaning in
    let old = c.args.config.now in
    let f = c.args.frame.now in
    let mid = c.effect.new.config in
    let l = c.in-Ok.ensures.later in
    let parts = for_stands m old (at_node f c.args.node []) (node_there m old f c.args.node [] c.requires.there c.requires.node tt) (inits.Expr c.args.e) c.args.test c.args.update c.args.body c.requires.is in
    let base : Base m mid = l.base in
    let there : IsThere m mid f = l.frames f c.requires.there in
    let node : StandsHere mid f c.args.node = stands_later m old f mid c.args.node l c.requires.node in
    let empty : c.effect.new.stops.waits ≡ [] = c.in-Ok.ensures.found.1 in
    let is : IsLoop m mid f c.args.node c.args.test c.args.update c.args.body = round_later m old mid f c.args.node (loop_round c.args.node c.args.test c.args.update c.args.body) l (round_is m old f c.args.node (nodes.For (inits.Expr c.args.e) c.args.test c.args.update c.args.body) (loop_round c.args.node c.args.test c.args.update c.args.body) (λ t env. refl) c.requires.is) in
    let test : StandsIf mid f c.args.test = stands_if_later m old f mid c.args.test l (if_stands m old f c.args.node c.args.test parts.0) in
    let update : StandsIf mid f c.args.update = stands_if_later m old f mid c.args.update l (if_stands m old f c.args.node c.args.update parts.1.0) in
    let body : StandsHere mid f c.args.body = stands_later m old f mid c.args.body l parts.1.1 in
    search (rules, base, there, node, empty, is, test, update, body)

pub for_expression-returns-in-Gives-clause-later : goal.loops::for_expression-returns-in-Gives-clause-later
for_expression-returns-in-Gives-clause-later g t c =
    later_then g.S.WorldStore.meaning c.args.config.now c.effect.new.config c.run_loop.new.config c.run_loop.result c.in-Ok.ensures.later c.run_loop.ensures.later

pub for_expression-returns-in-Gives-clause-does : goal.loops::for_expression-returns-in-Gives-clause-does
for_expression-returns-in-Gives-clause-does g t c =
    let m = g.S.WorldStore.meaning in
    let old = c.args.config.now in
    let mid = c.effect.new.config in
    let f = c.args.frame.now in
    let s = c.effect.new.stops in
    let new = c.run_loop.new.config in
    let k = c.run_loop.new.stops in
    let started : Env → Content → Act = λ env v. loops.for_started c.args.node.0 (number c.args.test) (number c.args.update) c.args.body.0 env v in
    form_goes_on m completion_in completion_in old mid new f (AtExpr c.args.e.0) (λ t env. then_value (started env)) c.in-Ok.end
    c.run_loop.result s.waits s.top k.waits k.top c.in-Ok.ensures.later c.in-Ok.ensures.does
    (line_as m completion_in mid new f (λ t env. then_value (started env) (completion_in t c.in-Ok.end)) c.run_loop.result k.waits k.top
    (λ t env. loops.loop_from c.args.node.0 (number c.args.test) (number c.args.update) c.args.body.0 env)
    (λ t more. ap (λ (e : Completion). then_value (started (env_in m mid t f)) (completion_in t e)) c.in-Gives.is) c.run_loop.ensures.does)

pub for_expression-returns-in_default-clause-later : goal.loops::for_expression-returns-in_default-clause-later
for_expression-returns-in_default-clause-later g t c = c.in-Ok.ensures.later

pub for_expression-returns-in_default-clause-found : goal.loops::for_expression-returns-in_default-clause-found
for_expression-returns-in_default-clause-found g t c = c.in-Ok.ensures.found

pub for_expression-returns-in_default-clause-does : goal.loops::for_expression-returns-in_default-clause-does
for_expression-returns-in_default-clause-does g t c =
    let m = g.S.WorldStore.meaning in
    let old = c.args.config.now in
    let mid = c.effect.new.config in
    let f = c.args.frame.now in
    let s = c.effect.new.stops in
    let started : Env → Content → Act = λ env v. loops.for_started c.args.node.0 (number c.args.test) (number c.args.update) c.args.body.0 env v in
    form_goes_on m completion_in completion_in old mid mid f (AtExpr c.args.e.0) (λ t env. then_value (started env)) c.in-Ok.end
    (Ok c.in-Ok.end) s.waits s.top s.waits s.top c.in-Ok.ensures.later c.in-Ok.ensures.does
    (line_ended m completion_in mid f (λ t env. then_value (started env) (completion_in t c.in-Ok.end)) c.in-Ok.end s.waits s.top
    (λ t more env. shorten_as _ _ (value_passes (started env) t c.in-Ok.end c.in_default.not-Gives)))

pub for_expression-returns-in-Err-clause-later : goal.loops::for_expression-returns-in-Err-clause-later
for_expression-returns-in-Err-clause-later g t c =
    let m = g.S.WorldStore.meaning in
    let s = c.effect.new.stops in
    let k = c.waits.new.stops in
    broke_later m Completion Completion c.args.config.now c.effect.new.config c.waits.new.config c.args.frame.now c.args.node [] (points.Stmt stmt.ForFirst) c.in-Err.end s.waits s.top c.waits.result k.waits k.top
    c.waits.ensures.same c.waits.ensures.waits c.in-Err.ensures.later

pub for_expression-returns-in-Err-clause-found : goal.loops::for_expression-returns-in-Err-clause-found
for_expression-returns-in-Err-clause-found g t c =
    let m = g.S.WorldStore.meaning in
    let s = c.effect.new.stops in
    let k = c.waits.new.stops in
    broke_found m Completion Completion c.args.config.now c.effect.new.config c.waits.new.config c.args.frame.now c.args.node [] (points.Stmt stmt.ForFirst) c.in-Err.end s.waits s.top c.waits.result k.waits k.top
    c.waits.ensures.same c.waits.ensures.waits c.in-Err.ensures.later c.requires.there c.requires.node tt tt c.in-Err.ensures.found

pub for_expression-returns-in-Err-clause-does : goal.loops::for_expression-returns-in-Err-clause-does
for_expression-returns-in-Err-clause-does g t c =
    let m = g.S.WorldStore.meaning in
    let old = c.args.config.now in
    let f = c.args.frame.now in
    let s = c.effect.new.stops in
    let k = c.waits.new.stops in
    broke_does m Completion Completion old c.effect.new.config c.waits.new.config f c.args.node [] (points.Stmt stmt.ForFirst) c.in-Err.end s.waits s.top c.waits.result k.waits k.top
    c.waits.ensures.same c.waits.ensures.waits completion_in completion_in (AtExpr c.args.e.0) (λ t env. then_value (loops.for_started c.args.node.0 (number c.args.test) (number c.args.update) c.args.body.0 env))
    (for_first_then m old c.effect.new.config f c.args.node (inits.Expr c.args.e) c.args.test c.args.update c.args.body c.requires.is) (λ t env e. refl) c.in-Err.ensures.later c.in-Err.ensures.does

-- from the first iteration on

pub run_loop-iterations-requires : goal.loops::run_loop-iterations-requires
run_loop-iterations-requires g t c =
    let m = g.S.WorldStore.meaning in
    let old = c.args.config.now in
    let f = c.args.frame.now in
    let mid = c.first.new.config in
    let l = c.in-Ok.ensures.later in
    let base : Base m mid = l.base in
    let there : IsThere m mid f = l.frames f c.requires.there in
    let node : StandsHere mid f c.args.node = stands_later m old f mid c.args.node l c.requires.node in
    let empty : c.first.new.stops.waits ≡ [] = c.in-Ok.ensures.found.1 in
    let is : IsLoop m mid f c.args.node c.args.test c.args.update c.args.body = round_later m old mid f c.args.node (loop_round c.args.node c.args.test c.args.update c.args.body) l c.requires.is in
    let test : StandsIf mid f c.args.test = stands_if_later m old f mid c.args.test l c.requires.test in
    let update : StandsIf mid f c.args.update = stands_if_later m old f mid c.args.update l c.requires.update in
    let body : StandsHere mid f c.args.body = stands_later m old f mid c.args.body l c.requires.body in
    search (rules, base, there, node, empty, is, test, update, body)

pub run_loop-returns-in-Some-clause-later : goal.loops::run_loop-returns-in-Some-clause-later
run_loop-returns-in-Some-clause-later g t c = c.in-Ok.ensures.later

pub run_loop-returns-in-Some-clause-found : goal.loops::run_loop-returns-in-Some-clause-found
run_loop-returns-in-Some-clause-found g t c = (subst (λ (o : Option Completion). HasRound c.first.new.config o) c.in-Some.is c.in-Ok.ensures.found.0, c.in-Ok.ensures.found.1)

pub run_loop-returns-in-Some-clause-does : goal.loops::run_loop-returns-in-Some-clause-does
run_loop-returns-in-Some-clause-does g t c =
    let m = g.S.WorldStore.meaning in
    let new = c.first.new.config in
    let old = c.args.config.now in
    let f = c.args.frame.now in
    subst (λ (o : Option Completion). Leaves m (line_here m old f (λ t env. loops.loop_from c.args.node.0 (number c.args.test) (number c.args.update) c.args.body.0 env)) (round_left m new f c.args.node o) old new) c.in-Some.is c.in-Ok.ensures.does

pub run_loop-returns-in-None-clause-later : goal.loops::run_loop-returns-in-None-clause-later
run_loop-returns-in-None-clause-later g t c =
    later_then g.S.WorldStore.meaning c.args.config.now c.first.new.config c.iterations.new.config c.iterations.result c.in-Ok.ensures.later c.iterations.ensures.later

pub run_loop-returns-in-None-clause-does : goal.loops::run_loop-returns-in-None-clause-does
run_loop-returns-in-None-clause-does g t c =
    let m = g.S.WorldStore.meaning in
    let old = c.args.config.now in
    let mid = c.first.new.config in
    let f = c.args.frame.now in
    let from = line_here m old f (λ t env. loops.loop_from c.args.node.0 (number c.args.test) (number c.args.update) c.args.body.0 env) in
    let one = subst (λ (o : Option Completion). Leaves m from (round_left m mid f c.args.node o) old mid) c.in-None.is c.in-Ok.ensures.does in
    let k = c.iterations.new.stops in
    in_memory c.iterations.result (leaves_all m from (goal_here m mid f (Again c.args.node.0)) (outcome_in m c.iterations.new.config completion_in c.iterations.result k.waits k.top) old mid c.iterations.new.config one) c.iterations.ensures.does

pub run_loop-returns-in-Err-clause-later : goal.loops::run_loop-returns-in-Err-clause-later
run_loop-returns-in-Err-clause-later g t c =
    broken_as (Option Completion) Completion (Later g.S.WorldStore.meaning c.args.config.now c.first.new.config) c.in-Err.end c.in-Err.ensures.later

pub run_loop-returns-in-Err-clause-does : goal.loops::run_loop-returns-in-Err-clause-does
run_loop-returns-in-Err-clause-does g t c = c.in-Err.ensures.does

-- the first iteration

pub first-value-requires : goal.loops::first-value-requires
first-value-requires g t c =
    let test : StandsHere c.args.config.now c.args.frame.now c.in-Some.e = subst (λ (o : Option NodeId). StandsIf c.args.config.now c.args.frame.now o) c.in-Some.is c.requires.test in
    search (rules, test)

pub first-tested-requires : goal.loops::first-tested-requires
first-tested-requires g t c =
    let m = g.S.WorldStore.meaning in
    let old = c.args.config.now in
    let f = c.args.frame.now in
    let mid = c.value.new.config in
    let l = c.in-Ok.ensures.later in
    let base : Base m mid = l.base in
    let there : IsThere m mid f = l.frames f c.requires.there in
    let node : StandsHere mid f c.args.node = stands_later m old f mid c.args.node l c.requires.node in
    let empty : c.value.new.stops.waits ≡ [] = c.in-Ok.ensures.found.1 in
    let update : StandsIf mid f c.args.update = stands_if_later m old f mid c.args.update l c.requires.update in
    let body : StandsHere mid f c.args.body = stands_later m old f mid c.args.body l c.requires.body in
    let truth : HasValue mid c.in-Ok.truth = c.in-Ok.ensures.found.0 in
    search (rules, base, there, node, empty, update, body, truth)

pub first-returns-in-Ok-clause-later : goal.loops::first-returns-in-Ok-clause-later
first-returns-in-Ok-clause-later g t c =
    later_then g.S.WorldStore.meaning c.args.config.now c.value.new.config c.tested.new.config c.tested.result c.in-Ok.ensures.later c.tested.ensures.later

pub first-returns-in-Ok-clause-does : goal.loops::first-returns-in-Ok-clause-does
first-returns-in-Ok-clause-does g t c =
    let m = g.S.WorldStore.meaning in
    let old = c.args.config.now in
    let mid = c.value.new.config in
    let new = c.tested.new.config in
    let f = c.args.frame.now in
    let k = c.tested.new.stops in
    let next : Table → Env → Meant → Act = λ t env. then_value (loops.loop_test c.args.node.0 (number c.args.update) c.args.body.0 env) in
    let act : Table → Env → Act = λ t env. loops.loop_from c.args.node.0 (number c.args.test) (number c.args.update) c.args.body.0 env in
    comes_behind m (line_here m old f act) (form_here m old f (AtExpr c.in-Some.e.0) next) (round_left m new f c.args.node) c.tested.result k.waits k.top old old new
    (line_begins m old f act (AtExpr c.in-Some.e.0) next (λ t more. ap (λ (o : Option NodeId). loops.loop_from c.args.node.0 (number o) (number c.args.update) c.args.body.0 (env_in m old t f)) c.in-Some.is))
    (comes_behind m (form_here m old f (AtExpr c.in-Some.e.0) next) (line_here m mid f (λ t env. next t env (gives_in t c.in-Ok.truth))) (round_left m new f c.args.node) c.tested.result k.waits k.top old mid new
    (part_left m gives_in old mid f (AtExpr c.in-Some.e.0) next c.in-Ok.truth c.in-Ok.ensures.later c.in-Ok.ensures.does) c.tested.ensures.does)

pub first-returns-in-Err-clause-later : goal.loops::first-returns-in-Err-clause-later
first-returns-in-Err-clause-later g t c =
    let m = g.S.WorldStore.meaning in
    let s = c.value.new.stops in
    let k = c.waits.new.stops in
    broke_later m Value (Option Completion) c.args.config.now c.value.new.config c.waits.new.config c.args.frame.now c.args.node [] (points.Stmt (stmt.ForTest c.args.update c.args.body)) c.in-Err.end s.waits s.top c.waits.result k.waits k.top
    c.waits.ensures.same c.waits.ensures.waits c.in-Err.ensures.later

pub first-returns-in-Err-clause-found : goal.loops::first-returns-in-Err-clause-found
first-returns-in-Err-clause-found g t c =
    let m = g.S.WorldStore.meaning in
    let old = c.args.config.now in
    let f = c.args.frame.now in
    let s = c.value.new.stops in
    let k = c.waits.new.stops in
    broke_found m Value (Option Completion) old c.value.new.config c.waits.new.config f c.args.node [] (points.Stmt (stmt.ForTest c.args.update c.args.body)) c.in-Err.end s.waits s.top c.waits.result k.waits k.top
    c.waits.ensures.same c.waits.ensures.waits c.in-Err.ensures.later c.requires.there c.requires.node tt (if_here m old f c.args.node c.args.update c.requires.update, c.requires.body) c.in-Err.ensures.found

pub first-returns-in-Err-clause-does : goal.loops::first-returns-in-Err-clause-does
first-returns-in-Err-clause-does g t c =
    let m = g.S.WorldStore.meaning in
    let old = c.args.config.now in
    let new = c.waits.new.config in
    let f = c.args.frame.now in
    let s = c.value.new.stops in
    let k = c.waits.new.stops in
    let next : Table → Env → Meant → Act = λ t env. then_value (loops.loop_test c.args.node.0 (number c.args.update) c.args.body.0 env) in
    let act : Table → Env → Act = λ t env. loops.loop_from c.args.node.0 (number c.args.test) (number c.args.update) c.args.body.0 env in
    comes_behind m (line_here m old f act) (form_here m old f (AtExpr c.in-Some.e.0) next) (round_left m new f c.args.node) (Err c.waits.result) k.waits k.top old old new
    (line_begins m old f act (AtExpr c.in-Some.e.0) next (λ t more. ap (λ (o : Option NodeId). loops.loop_from c.args.node.0 (number o) (number c.args.update) c.args.body.0 (env_in m old t f)) c.in-Some.is))
    (broke_does m Value Completion old c.value.new.config new f c.args.node [] (points.Stmt (stmt.ForTest c.args.update c.args.body)) c.in-Err.end s.waits s.top c.waits.result k.waits k.top
    c.waits.ensures.same c.waits.ensures.waits gives_in completion_in (AtExpr c.in-Some.e.0) next (λ l t env. refl) (λ t env e. refl) c.in-Err.ensures.later c.in-Err.ensures.does)

pub first-returns-in-None-clause-does : goal.loops::first-returns-in-None-clause-does
first-returns-in-None-clause-does g t c =
    let m = g.S.WorldStore.meaning in
    let old = c.args.config.now in
    let f = c.args.frame.now in
    let k = c.body_run.new.stops in
    comes_behind m (line_here m old f (λ t env. loops.loop_from c.args.node.0 (number c.args.test) (number c.args.update) c.args.body.0 env))
    (form_here m old f (AtStmt c.args.body.0) (λ t env. loops.loop_body c.args.node.0 (number c.args.update) env)) (round_left m c.body_run.new.config f c.args.node) c.body_run.result k.waits k.top old old c.body_run.new.config
    (line_begins m old f (λ t env. loops.loop_from c.args.node.0 (number c.args.test) (number c.args.update) c.args.body.0 env) (AtStmt c.args.body.0) (λ t env. loops.loop_body c.args.node.0 (number c.args.update) env)
    (λ t more. ap (λ (o : Option NodeId). loops.loop_from c.args.node.0 (number o) (number c.args.update) c.args.body.0 (env_in m old t f)) c.in-None.is)) c.body_run.ensures.does

-- the later ones

pub iterations-loop-test-init : goal.loops::iterations-loop-test-init
iterations-loop-test-init g t c = record {
  left = record { by = λ go later r h. h };
  later = later_same g.S.WorldStore.meaning c.args.config.now c.requires.base;
  empty = c.requires.empty;
}

pub iterations-iteration-requires : goal.loops::iterations-iteration-requires
iterations-iteration-requires g t c =
    let m = g.S.WorldStore.meaning in
    let old = c.args.config.now in
    let f = c.args.frame.now in
    let mid = c.loop-test.config in
    let now = record mid { left = mid.left - 1 } in
    let l = later_twice m old mid now c.loop-test.invariant.later (later_left m mid (mid.left - 1) c.loop-test.invariant.later.base) in
    let some = c.may_go_round.ensures.room c.loop-test-test.true in
    let base : Base m now = l.base in
    let there : IsThere m now f = l.frames f c.requires.there in
    let node : StandsHere now f c.args.node = stands_later m old f now c.args.node l c.requires.node in
    let empty : c.loop-test.stops.waits ≡ [] = c.loop-test.invariant.empty in
    let test : StandsIf now f c.args.test = stands_if_later m old f now c.args.test l c.requires.test in
    let update : StandsIf now f c.args.update = stands_if_later m old f now c.args.update l c.requires.update in
    let body : StandsHere now f c.args.body = stands_later m old f now c.args.body l c.requires.body in
    search (rules, some, base, there, node, empty, test, update, body)

pub iterations-loop-test-preserved : goal.loops::iterations-loop-test-preserved
iterations-loop-test-preserved g t c =
    let m = g.S.WorldStore.meaning in
    let old = c.args.config.now in
    let f = c.args.frame.now in
    let mid = c.loop-test.config in
    let now = record mid { left = mid.left - 1 } in
    let new = c.iteration.new.config in
    let inv = c.loop-test.invariant in
    let l = later_left m mid (mid.left - 1) inv.later.base in
    let line = line_here m now f (λ t env. iteration_from c.args.node.0 (number c.args.test) (number c.args.update) c.args.body.0 env) in
    let goal_at : Config g.row.S.Denot → Table → (Meant → Act) → Act = λ x. goal_here m x f (Again c.args.node.0) in
    let begun = round_begun m mid f c.args.node (loop_round c.args.node c.args.test c.args.update c.args.body) (c.may_go_round.ensures.left c.loop-test-test.true) (round_later m old mid f c.args.node (loop_round c.args.node c.args.test c.args.update c.args.body) inv.later c.requires.is) in
    let one = subst (λ (o : Option Completion). Leaves m line (round_left m new f c.args.node o) now new) c.in-None.is c.in-Ok.ensures.does in
    record {
      left = leaves_all m (goal_at old) (goal_at mid) (goal_at new) old mid new inv.left (leaves_all m (goal_at mid) line (goal_at new) mid now new begun one);
      later = later_twice m old mid new inv.later (later_twice m mid now new l c.in-Ok.ensures.later);
      empty = c.in-Ok.ensures.found.1;
    }

pub iterations-returns-in-Some-clause-later : goal.loops::iterations-returns-in-Some-clause-later
iterations-returns-in-Some-clause-later g t c =
    let m = g.S.WorldStore.meaning in
    let old = c.args.config.now in
    let mid = c.loop-test.config in
    let now = record mid { left = mid.left - 1 } in
    let new = c.iteration.new.config in
    let inv = c.loop-test.invariant in
    later_twice m old mid new inv.later (later_twice m mid now new (later_left m mid (mid.left - 1) inv.later.base) c.in-Ok.ensures.later)

pub iterations-returns-in-Some-clause-found : goal.loops::iterations-returns-in-Some-clause-found
iterations-returns-in-Some-clause-found g t c = (subst (λ (o : Option Completion). HasRound c.iteration.new.config o) c.in-Some.is c.in-Ok.ensures.found.0, c.in-Ok.ensures.found.1)

pub iterations-returns-in-Some-clause-does : goal.loops::iterations-returns-in-Some-clause-does
iterations-returns-in-Some-clause-does g t c =
    let m = g.S.WorldStore.meaning in
    let old = c.args.config.now in
    let f = c.args.frame.now in
    let mid = c.loop-test.config in
    let now = record mid { left = mid.left - 1 } in
    let new = c.iteration.new.config in
    let inv = c.loop-test.invariant in
    let line = line_here m now f (λ t env. iteration_from c.args.node.0 (number c.args.test) (number c.args.update) c.args.body.0 env) in
    let goal_at : Config g.row.S.Denot → Table → (Meant → Act) → Act = λ x. goal_here m x f (Again c.args.node.0) in
    let begun = round_begun m mid f c.args.node (loop_round c.args.node c.args.test c.args.update c.args.body) (c.may_go_round.ensures.left c.loop-test-test.true) (round_later m old mid f c.args.node (loop_round c.args.node c.args.test c.args.update c.args.body) inv.later c.requires.is) in
    let one = subst (λ (o : Option Completion). Leaves m line (round_left m new f c.args.node o) now new) c.in-Some.is c.in-Ok.ensures.does in
    leaves_all m (goal_at old) (goal_at mid) (round_left m new f c.args.node (Some c.in-Some.end)) old mid new inv.left (leaves_all m (goal_at mid) line (round_left m new f c.args.node (Some c.in-Some.end)) mid now new begun one)

pub iterations-returns-in-Err-clause-later : goal.loops::iterations-returns-in-Err-clause-later
iterations-returns-in-Err-clause-later g t c =
    let m = g.S.WorldStore.meaning in
    let old = c.args.config.now in
    let mid = c.loop-test.config in
    let now = record mid { left = mid.left - 1 } in
    let new = c.iteration.new.config in
    let inv = c.loop-test.invariant in
    later_then m {A = Completion} old mid new (Err c.in-Err.end) inv.later
    (later_then m {A = Completion} mid now new (Err c.in-Err.end) (later_left m mid (mid.left - 1) inv.later.base) (broken_as (Option Completion) Completion (Later m now new) c.in-Err.end c.in-Err.ensures.later))

pub iterations-returns-in-Err-clause-does : goal.loops::iterations-returns-in-Err-clause-does
iterations-returns-in-Err-clause-does g t c =
    let m = g.S.WorldStore.meaning in
    let old = c.args.config.now in
    let f = c.args.frame.now in
    let mid = c.loop-test.config in
    let now = record mid { left = mid.left - 1 } in
    let new = c.iteration.new.config in
    let inv = c.loop-test.invariant in
    let k = c.iteration.new.stops in
    let line = line_here m now f (λ t env. iteration_from c.args.node.0 (number c.args.test) (number c.args.update) c.args.body.0 env) in
    let goal_at : Config g.row.S.Denot → Table → (Meant → Act) → Act = λ x. goal_here m x f (Again c.args.node.0) in
    let begun = round_begun m mid f c.args.node (loop_round c.args.node c.args.test c.args.update c.args.body) (c.may_go_round.ensures.left c.loop-test-test.true) (round_later m old mid f c.args.node (loop_round c.args.node c.args.test c.args.update c.args.body) inv.later c.requires.is) in
    comes_behind m (goal_at old) (goal_at mid) (round_left m new f c.args.node) (Err c.in-Err.end) k.waits k.top old mid new inv.left
    (comes_behind m (goal_at mid) line (round_left m new f c.args.node) (Err c.in-Err.end) k.waits k.top mid now new begun c.in-Err.ensures.does)

pub iterations-returns-clause-later : goal.loops::iterations-returns-clause-later
iterations-returns-clause-later g t c =
    let m = g.S.WorldStore.meaning in
    let old = c.args.config.now in
    let mid = c.loop-test.config in
    let inv = c.loop-test.invariant in
    later_then m {A = Completion} old mid c.stop.new.config (Err c.stop.result) inv.later (later_stopped m {A = Completion} mid c.stop.new.config (Err c.stop.result) inv.later.base c.stop.ensures.same)

pub iterations-returns-clause-found : goal.loops::iterations-returns-clause-found
iterations-returns-clause-found g t c =
    let m = g.S.WorldStore.meaning in
    let old = c.args.config.now in
    let f = c.args.frame.now in
    let mid = c.loop-test.config in
    let l = c.loop-test.invariant.later in
    let s = c.stop.new.stops in
    stop_found m mid c.stop.new.config f c.args.node [] (phases.Due starts.Again) c.stop.result s.waits s.top c.stop.ensures.same
    (l.frames f c.requires.there) (stands_later m old f mid c.args.node l c.requires.node) tt tt c.stop.ensures.stops

pub iterations-returns-clause-does : goal.loops::iterations-returns-clause-does
iterations-returns-clause-does g t c =
    let m = g.S.WorldStore.meaning in
    let old = c.args.config.now in
    let f = c.args.frame.now in
    let mid = c.loop-test.config in
    let s = c.stop.new.stops in
    let goal_at : Config g.row.S.Denot → Table → (Meant → Act) → Act = λ x. goal_here m x f (Again c.args.node.0) in
    comes_behind m (goal_at old) (goal_at mid) (round_left m c.stop.new.config f c.args.node) (Err c.stop.result) s.waits s.top old mid c.stop.new.config c.loop-test.invariant.left
    (due_does m {A = Completion} completion_in mid c.stop.new.config f c.stop.result s.waits s.top c.stop.ensures.same (part.Again c.args.node) c.stop.ensures.stops)

pub iteration-entered-requires : goal.loops::iteration-entered-requires
iteration-entered-requires g t c =
    let test : StandsHere c.args.config.now c.args.frame.now c.in-Some.e = subst (λ (o : Option NodeId). StandsIf c.args.config.now c.args.frame.now o) c.in-Some.is c.requires.test in
    search (rules, test)

pub iteration-tested-requires : goal.loops::iteration-tested-requires
iteration-tested-requires g t c =
    let m = g.S.WorldStore.meaning in
    let old = c.args.config.now in
    let f = c.args.frame.now in
    let mid = c.entered.new.config in
    let l = c.in-Ok.ensures.later in
    let base : Base m mid = l.base in
    let there : IsThere m mid f = l.frames f c.requires.there in
    let node : StandsHere mid f c.args.node = stands_later m old f mid c.args.node l c.requires.node in
    let empty : c.entered.new.stops.waits ≡ [] = c.in-Ok.ensures.found.1 in
    let update : StandsIf mid f c.args.update = stands_if_later m old f mid c.args.update l c.requires.update in
    let body : StandsHere mid f c.args.body = stands_later m old f mid c.args.body l c.requires.body in
    let truth : HasValue mid c.in-Ok.truth = c.in-Ok.ensures.found.0 in
    search (rules, base, there, node, empty, update, body, truth)

pub iteration-returns-in-Ok-clause-later : goal.loops::iteration-returns-in-Ok-clause-later
iteration-returns-in-Ok-clause-later g t c =
    later_then g.S.WorldStore.meaning c.args.config.now c.entered.new.config c.tested.new.config c.tested.result c.in-Ok.ensures.later c.tested.ensures.later

pub iteration-returns-in-Ok-clause-does : goal.loops::iteration-returns-in-Ok-clause-does
iteration-returns-in-Ok-clause-does g t c =
    let m = g.S.WorldStore.meaning in
    let old = c.args.config.now in
    let mid = c.entered.new.config in
    let new = c.tested.new.config in
    let f = c.args.frame.now in
    let k = c.tested.new.stops in
    let next : Table → Env → Meant → Act = λ t env. then_value (loops.loop_test c.args.node.0 (number c.args.update) c.args.body.0 env) in
    let act : Table → Env → Act = λ t env. iteration_from c.args.node.0 (number c.args.test) (number c.args.update) c.args.body.0 env in
    let other : Table → Env → Act = λ t env. Sub (expr_at c.in-Some.e.0 env) (next t env) in
    comes_behind m (line_here m old f act) (line_here m old f other) (round_left m new f c.args.node) c.tested.result k.waits k.top old old new
    (line_same m old f act other (λ t more. ap (λ (o : Option NodeId). iteration_from c.args.node.0 (number o) (number c.args.update) c.args.body.0 (env_in m old t f)) c.in-Some.is))
    (comes_behind m (line_here m old f other) (line_here m mid f (λ t env. next t env (gives_in t c.in-Ok.truth))) (round_left m new f c.args.node) c.tested.result k.waits k.top old mid new
    (entry_left m gives_in old mid f (AtExpr c.in-Some.e.0) next c.in-Ok.truth c.in-Ok.ensures.later c.in-Ok.ensures.does) c.tested.ensures.does)

pub iteration-returns-in-Err-clause-later : goal.loops::iteration-returns-in-Err-clause-later
iteration-returns-in-Err-clause-later g t c =
    let m = g.S.WorldStore.meaning in
    let s = c.entered.new.stops in
    let k = c.waits.new.stops in
    broke_later m Value (Option Completion) c.args.config.now c.entered.new.config c.waits.new.config c.args.frame.now c.args.node [] (points.Stmt (stmt.ForTest c.args.update c.args.body)) c.in-Err.end s.waits s.top c.waits.result k.waits k.top
    c.waits.ensures.same c.waits.ensures.waits c.in-Err.ensures.later

pub iteration-returns-in-Err-clause-found : goal.loops::iteration-returns-in-Err-clause-found
iteration-returns-in-Err-clause-found g t c =
    let m = g.S.WorldStore.meaning in
    let old = c.args.config.now in
    let f = c.args.frame.now in
    let s = c.entered.new.stops in
    let k = c.waits.new.stops in
    broke_found m Value (Option Completion) old c.entered.new.config c.waits.new.config f c.args.node [] (points.Stmt (stmt.ForTest c.args.update c.args.body)) c.in-Err.end s.waits s.top c.waits.result k.waits k.top
    c.waits.ensures.same c.waits.ensures.waits c.in-Err.ensures.later c.requires.there c.requires.node tt (if_here m old f c.args.node c.args.update c.requires.update, c.requires.body) c.in-Err.ensures.found

pub iteration-returns-in-Err-clause-does : goal.loops::iteration-returns-in-Err-clause-does
iteration-returns-in-Err-clause-does g t c =
    let m = g.S.WorldStore.meaning in
    let old = c.args.config.now in
    let new = c.waits.new.config in
    let f = c.args.frame.now in
    let s = c.entered.new.stops in
    let k = c.waits.new.stops in
    let next : Table → Env → Meant → Act = λ t env. then_value (loops.loop_test c.args.node.0 (number c.args.update) c.args.body.0 env) in
    let act : Table → Env → Act = λ t env. iteration_from c.args.node.0 (number c.args.test) (number c.args.update) c.args.body.0 env in
    let other : Table → Env → Act = λ t env. Sub (expr_at c.in-Some.e.0 env) (next t env) in
    comes_behind m (line_here m old f act) (line_here m old f other) (round_left m new f c.args.node) (Err c.waits.result) k.waits k.top old old new
    (line_same m old f act other (λ t more. ap (λ (o : Option NodeId). iteration_from c.args.node.0 (number o) (number c.args.update) c.args.body.0 (env_in m old t f)) c.in-Some.is))
    (entry_broke m {A = Value} {B = Completion} gives_in completion_in old c.entered.new.config new f (AtExpr c.in-Some.e.0) next c.args.node [] (points.Stmt (stmt.ForTest c.args.update c.args.body))
    c.in-Err.end s.waits s.top c.waits.result k.waits k.top c.waits.ensures.same c.waits.ensures.waits (λ l t env. refl) (λ t env e. refl) c.in-Err.ensures.later c.in-Err.ensures.does)

pub iteration-returns-in-None-clause-does : goal.loops::iteration-returns-in-None-clause-does
iteration-returns-in-None-clause-does g t c =
    let m = g.S.WorldStore.meaning in
    let old = c.args.config.now in
    let f = c.args.frame.now in
    let k = c.body_entered.new.stops in
    let other : Table → Env → Act = λ t env. Sub (stmt_at c.args.body.0 env) (loops.loop_body c.args.node.0 (number c.args.update) env) in
    comes_behind m (line_here m old f (λ t env. iteration_from c.args.node.0 (number c.args.test) (number c.args.update) c.args.body.0 env)) (line_here m old f other) (round_left m c.body_entered.new.config f c.args.node) c.body_entered.result k.waits k.top old old c.body_entered.new.config
    (line_same m old f (λ t env. iteration_from c.args.node.0 (number c.args.test) (number c.args.update) c.args.body.0 env) other (λ t more. ap (λ (o : Option NodeId). iteration_from c.args.node.0 (number o) (number c.args.update) c.args.body.0 (env_in m old t f)) c.in-None.is)) c.body_entered.ensures.does

-- what is entered already

pub entered-returns-in-Some-clause-does : goal.loops::entered-returns-in-Some-clause-does
entered-returns-in-Some-clause-does g t c =
    let m = g.S.WorldStore.meaning in
    let old = c.args.config.now in
    let s = c.args.stops.now in
    did m gives_in (entry_here m old c.args.frame.now (AtExpr c.args.node.0)) c.in-Some.value s.waits s.top old c.quick_entered.new.config c.in-Some.ensures.does

pub entered-form-requires : goal.loops::entered-form-requires
entered-form-requires g t c =
    let m = g.S.WorldStore.meaning in
    let old = c.args.config.now in
    let f = c.args.frame.now in
    let mid = c.quick_entered.new.config in
    let l = c.quick_entered.ensures.later in
    let base : Base m mid = l.base in
    let there : IsThere m mid f = l.frames f c.requires.there in
    let node : StandsHere mid f c.args.node = stands_later m old f mid c.args.node l c.requires.node in
    search (rules, base, there, node)

pub entered-returns-clause-later : goal.loops::entered-returns-clause-later
entered-returns-clause-later g t c =
    later_then g.S.WorldStore.meaning c.args.config.now c.quick_entered.new.config c.form.new.config c.form.result c.quick_entered.ensures.later c.form.ensures.later

pub entered-returns-clause-does : goal.loops::entered-returns-clause-does
entered-returns-clause-does g t c =
    let m = g.S.WorldStore.meaning in
    let s = c.form.new.stops in
    subst (λ (x : Config g.row.S.Denot). Evaluates m (entry_here m x c.args.frame.now (AtExpr c.args.node.0)) gives_in c.form.result s.waits s.top x c.form.new.config) c.in_default.ensures.same c.form.ensures.does

pub body_entered-body_ended-requires : goal.loops::body_entered-body_ended-requires
body_entered-body_ended-requires g t c =
    let m = g.S.WorldStore.meaning in
    let old = c.args.config.now in
    let f = c.args.frame.now in
    let mid = c.statement_form.new.config in
    let l = c.in-Ok.ensures.later in
    let base : Base m mid = l.base in
    let there : IsThere m mid f = l.frames f c.requires.there in
    let node : StandsHere mid f c.args.node = stands_later m old f mid c.args.node l c.requires.node in
    let empty : c.statement_form.new.stops.waits ≡ [] = c.in-Ok.ensures.found.1 in
    let update : StandsIf mid f c.args.update = stands_if_later m old f mid c.args.update l c.requires.update in
    let end : HasCompletion mid c.in-Ok.end = c.in-Ok.ensures.found.0 in
    search (rules, base, there, node, empty, update, end)

pub body_entered-returns-in-Ok-clause-later : goal.loops::body_entered-returns-in-Ok-clause-later
body_entered-returns-in-Ok-clause-later g t c =
    later_then g.S.WorldStore.meaning c.args.config.now c.statement_form.new.config c.body_ended.new.config c.body_ended.result c.in-Ok.ensures.later c.body_ended.ensures.later

pub body_entered-returns-in-Ok-clause-does : goal.loops::body_entered-returns-in-Ok-clause-does
body_entered-returns-in-Ok-clause-does g t c =
    let m = g.S.WorldStore.meaning in
    let old = c.args.config.now in
    let mid = c.statement_form.new.config in
    let f = c.args.frame.now in
    let k = c.body_ended.new.stops in
    let next : Table → Env → Meant → Act = λ t env. loops.loop_body c.args.node.0 (number c.args.update) env in
    comes_behind m (line_here m old f (λ t env. Sub (entry (AtStmt c.args.body.0) env) (next t env))) (line_here m mid f (λ t env. next t env (completion_in t c.in-Ok.end))) (round_left m c.body_ended.new.config f c.args.node) c.body_ended.result k.waits k.top old mid c.body_ended.new.config
    (entry_left m completion_in old mid f (AtStmt c.args.body.0) next c.in-Ok.end c.in-Ok.ensures.later c.in-Ok.ensures.does) c.body_ended.ensures.does

pub body_entered-returns-in-Err-clause-later : goal.loops::body_entered-returns-in-Err-clause-later
body_entered-returns-in-Err-clause-later g t c =
    let m = g.S.WorldStore.meaning in
    let s = c.statement_form.new.stops in
    let k = c.waits.new.stops in
    broke_later m Completion (Option Completion) c.args.config.now c.statement_form.new.config c.waits.new.config c.args.frame.now c.args.node [] (points.Stmt (stmt.ForBody c.args.update)) c.in-Err.end s.waits s.top c.waits.result k.waits k.top
    c.waits.ensures.same c.waits.ensures.waits c.in-Err.ensures.later

pub body_entered-returns-in-Err-clause-found : goal.loops::body_entered-returns-in-Err-clause-found
body_entered-returns-in-Err-clause-found g t c =
    let m = g.S.WorldStore.meaning in
    let old = c.args.config.now in
    let f = c.args.frame.now in
    let s = c.statement_form.new.stops in
    let k = c.waits.new.stops in
    broke_found m Completion (Option Completion) old c.statement_form.new.config c.waits.new.config f c.args.node [] (points.Stmt (stmt.ForBody c.args.update)) c.in-Err.end s.waits s.top c.waits.result k.waits k.top
    c.waits.ensures.same c.waits.ensures.waits c.in-Err.ensures.later c.requires.there c.requires.node tt (if_here m old f c.args.node c.args.update c.requires.update) c.in-Err.ensures.found

pub body_entered-returns-in-Err-clause-does : goal.loops::body_entered-returns-in-Err-clause-does
body_entered-returns-in-Err-clause-does g t c =
    let m = g.S.WorldStore.meaning in
    let s = c.statement_form.new.stops in
    let k = c.waits.new.stops in
    entry_broke m {A = Completion} {B = Completion} completion_in completion_in c.args.config.now c.statement_form.new.config c.waits.new.config c.args.frame.now (AtStmt c.args.body.0) (λ t env. loops.loop_body c.args.node.0 (number c.args.update) env) c.args.node [] (points.Stmt (stmt.ForBody c.args.update))
    c.in-Err.end s.waits s.top c.waits.result k.waits k.top c.waits.ensures.same c.waits.ensures.waits (λ l t env. refl) (λ t env e. refl) c.in-Err.ensures.later c.in-Err.ensures.does

-- after the test

pub tested-returns-then-to_boolean-clause-does : goal.loops::tested-returns-then-to_boolean-clause-does
tested-returns-then-to_boolean-clause-does g t c =
    let m = g.S.WorldStore.meaning in
    let old = c.args.config.now in
    let f = c.args.frame.now in
    let k = c.body_run.new.stops in
    comes_behind m (line_here m old f (λ t env. loops.loop_test c.args.node.0 (number c.args.update) c.args.body.0 env (value_in t c.args.truth)))
    (form_here m old f (AtStmt c.args.body.0) (λ t env. loops.loop_body c.args.node.0 (number c.args.update) env)) (round_left m c.body_run.new.config f c.args.node) c.body_run.result k.waits k.top old old c.body_run.new.config
    (line_begins m old f (λ t env. loops.loop_test c.args.node.0 (number c.args.update) c.args.body.0 env (value_in t c.args.truth)) (AtStmt c.args.body.0) (λ t env. loops.loop_body c.args.node.0 (number c.args.update) env)
    (λ t more. test_holds c.args.node.0 (number c.args.update) c.args.body.0 (env_in m old t f) (value_in t c.args.truth) (c.to_boolean.ensures t more ∙ c.if-to_boolean.true))) c.body_run.ensures.does

pub tested-returns-else-to_boolean-clause-does : goal.loops::tested-returns-else-to_boolean-clause-does
tested-returns-else-to_boolean-clause-does g t c =
    let m = g.S.WorldStore.meaning in
    let old = c.args.config.now in
    let f = c.args.frame.now in
    round_ended m old f c.args.node (λ t env. loops.loop_test c.args.node.0 (number c.args.update) c.args.body.0 env (value_in t c.args.truth)) completions.Normal
    (λ t more. test_fails c.args.node.0 (number c.args.update) c.args.body.0 (env_in m old t f) (value_in t c.args.truth) (c.to_boolean.ensures t more ∙ c.if-to_boolean.false))

-- the body

pub body_run-body_ended-requires : goal.loops::body_run-body_ended-requires
body_run-body_ended-requires g t c =
    let m = g.S.WorldStore.meaning in
    let old = c.args.config.now in
    let f = c.args.frame.now in
    let mid = c.statement.new.config in
    let l = c.in-Ok.ensures.later in
    let base : Base m mid = l.base in
    let there : IsThere m mid f = l.frames f c.requires.there in
    let node : StandsHere mid f c.args.node = stands_later m old f mid c.args.node l c.requires.node in
    let empty : c.statement.new.stops.waits ≡ [] = c.in-Ok.ensures.found.1 in
    let update : StandsIf mid f c.args.update = stands_if_later m old f mid c.args.update l c.requires.update in
    let end : HasCompletion mid c.in-Ok.end = c.in-Ok.ensures.found.0 in
    search (rules, base, there, node, empty, update, end)

pub body_run-returns-in-Ok-clause-later : goal.loops::body_run-returns-in-Ok-clause-later
body_run-returns-in-Ok-clause-later g t c =
    later_then g.S.WorldStore.meaning c.args.config.now c.statement.new.config c.body_ended.new.config c.body_ended.result c.in-Ok.ensures.later c.body_ended.ensures.later

pub body_run-returns-in-Ok-clause-does : goal.loops::body_run-returns-in-Ok-clause-does
body_run-returns-in-Ok-clause-does g t c =
    let m = g.S.WorldStore.meaning in
    let old = c.args.config.now in
    let mid = c.statement.new.config in
    let f = c.args.frame.now in
    let k = c.body_ended.new.stops in
    let next : Table → Env → Meant → Act = λ t env. loops.loop_body c.args.node.0 (number c.args.update) env in
    comes_behind m (form_here m old f (AtStmt c.args.body.0) next) (line_here m mid f (λ t env. next t env (completion_in t c.in-Ok.end))) (round_left m c.body_ended.new.config f c.args.node) c.body_ended.result k.waits k.top old mid c.body_ended.new.config
    (part_left m completion_in old mid f (AtStmt c.args.body.0) next c.in-Ok.end c.in-Ok.ensures.later c.in-Ok.ensures.does) c.body_ended.ensures.does

pub body_run-returns-in-Err-clause-later : goal.loops::body_run-returns-in-Err-clause-later
body_run-returns-in-Err-clause-later g t c =
    let m = g.S.WorldStore.meaning in
    let s = c.statement.new.stops in
    let k = c.waits.new.stops in
    broke_later m Completion (Option Completion) c.args.config.now c.statement.new.config c.waits.new.config c.args.frame.now c.args.node [] (points.Stmt (stmt.ForBody c.args.update)) c.in-Err.end s.waits s.top c.waits.result k.waits k.top
    c.waits.ensures.same c.waits.ensures.waits c.in-Err.ensures.later

pub body_run-returns-in-Err-clause-found : goal.loops::body_run-returns-in-Err-clause-found
body_run-returns-in-Err-clause-found g t c =
    let m = g.S.WorldStore.meaning in
    let old = c.args.config.now in
    let f = c.args.frame.now in
    let s = c.statement.new.stops in
    let k = c.waits.new.stops in
    broke_found m Completion (Option Completion) old c.statement.new.config c.waits.new.config f c.args.node [] (points.Stmt (stmt.ForBody c.args.update)) c.in-Err.end s.waits s.top c.waits.result k.waits k.top
    c.waits.ensures.same c.waits.ensures.waits c.in-Err.ensures.later c.requires.there c.requires.node tt (if_here m old f c.args.node c.args.update c.requires.update) c.in-Err.ensures.found

pub body_run-returns-in-Err-clause-does : goal.loops::body_run-returns-in-Err-clause-does
body_run-returns-in-Err-clause-does g t c =
    let m = g.S.WorldStore.meaning in
    let s = c.statement.new.stops in
    let k = c.waits.new.stops in
    broke_does m Completion Completion c.args.config.now c.statement.new.config c.waits.new.config c.args.frame.now c.args.node [] (points.Stmt (stmt.ForBody c.args.update)) c.in-Err.end s.waits s.top c.waits.result k.waits k.top
    c.waits.ensures.same c.waits.ensures.waits completion_in completion_in (AtStmt c.args.body.0) (λ t env. loops.loop_body c.args.node.0 (number c.args.update) env) (λ l t env. refl) (λ t env e. refl) c.in-Err.ensures.later c.in-Err.ensures.does

-- after the body

pub body_ended-update_run-requires : goal.loops::body_ended-update_run-requires
body_ended-update_run-requires g t c =
    let update : StandsHere c.args.config.now c.args.frame.now c.in-Some.e = subst (λ (o : Option NodeId). StandsIf c.args.config.now c.args.frame.now o) c.in-Some.is c.requires.update in
    search (rules, update)

pub body_ended-returns-in-Some-clause-does : goal.loops::body_ended-returns-in-Some-clause-does
body_ended-returns-in-Some-clause-does g t c =
    let m = g.S.WorldStore.meaning in
    let old = c.args.config.now in
    let new = c.update_run.new.config in
    let f = c.args.frame.now in
    let k = c.update_run.new.stops in
    let act : Table → Env → Act = λ t env. loops.loop_body c.args.node.0 (number c.args.update) env (completion_in t c.args.end) in
    let other : Table → Env → Act = λ t env. loops.loop_update c.args.node.0 (number c.args.update) env in
    let next : Table → Env → Meant → Act = λ t env. then_value (loops.loop_updated c.args.node.0 env) in
    comes_behind m (line_here m old f act) (line_here m old f other) (round_left m new f c.args.node) c.update_run.result k.waits k.top old old new
    (line_same m old f act other (λ t more. c.in-Again.ensures.means t more (other t (env_in m old t f))))
    (comes_behind m (line_here m old f other) (form_here m old f (AtExpr c.in-Some.e.0) next) (round_left m new f c.args.node) c.update_run.result k.waits k.top old old new
    (line_begins m old f other (AtExpr c.in-Some.e.0) next (λ t more. ap (λ (o : Option NodeId). loops.loop_update c.args.node.0 (number o) (env_in m old t f)) c.in-Some.is)) c.update_run.ensures.does)

pub body_ended-returns-in-None-clause-later : goal.loops::body_ended-returns-in-None-clause-later
body_ended-returns-in-None-clause-later g t c = later_same g.S.WorldStore.meaning c.args.config.now c.requires.base

pub body_ended-returns-in-None-clause-does : goal.loops::body_ended-returns-in-None-clause-does
body_ended-returns-in-None-clause-does g t c =
    let m = g.S.WorldStore.meaning in
    let old = c.args.config.now in
    let f = c.args.frame.now in
    let act : Table → Env → Act = λ t env. loops.loop_body c.args.node.0 (number c.args.update) env (completion_in t c.args.end) in
    let other : Table → Env → Act = λ t env. loops.loop_update c.args.node.0 (number c.args.update) env in
    leaves_all m (line_here m old f act) (line_here m old f other) (round_left m old f c.args.node None) old old old
    (line_same m old f act other (λ t more. c.in-Again.ensures.means t more (other t (env_in m old t f))))
    (round_due m old f c.args.node other (λ t more. ap (λ (o : Option NodeId). loops.loop_update c.args.node.0 (number o) (env_in m old t f)) c.in-None.is))

pub body_ended-returns-in-Ends-clause-found : goal.loops::body_ended-returns-in-Ends-clause-found
body_ended-returns-in-Ends-clause-found g t c = (c.in-Ends.ensures.there, c.requires.empty)

pub body_ended-returns-in-Ends-clause-does : goal.loops::body_ended-returns-in-Ends-clause-does
body_ended-returns-in-Ends-clause-does g t c =
    let m = g.S.WorldStore.meaning in
    let old = c.args.config.now in
    let f = c.args.frame.now in
    let act : Table → Env → Act = λ t env. loops.loop_body c.args.node.0 (number c.args.update) env (completion_in t c.args.end) in
    round_ended m old f c.args.node act c.in-Ends.ended (λ t more. c.in-Ends.ensures.means t more (loops.loop_update c.args.node.0 (number c.args.update) (env_in m old t f)))

-- the update

pub update_run-returns-in-Ok-clause-found : goal.loops::update_run-returns-in-Ok-clause-found
update_run-returns-in-Ok-clause-found g t c =
    (round_there c.effect.new.config c.after_update.result c.in-Ok.end c.after_update.ensures.same c.in-Ok.ensures.found.0, c.in-Ok.ensures.found.1)

pub update_run-returns-in-Ok-clause-does : goal.loops::update_run-returns-in-Ok-clause-does
update_run-returns-in-Ok-clause-does g t c =
    let m = g.S.WorldStore.meaning in
    let old = c.args.config.now in
    let mid = c.effect.new.config in
    let f = c.args.frame.now in
    let next : Table → Env → Meant → Act = λ t env. then_value (loops.loop_updated c.args.node.0 env) in
    leaves_all m (form_here m old f (AtExpr c.args.update.0) next) (line_here m mid f (λ t env. next t env (completion_in t c.in-Ok.end))) (round_left m mid f c.args.node c.after_update.result) old mid mid
    (part_left m completion_in old mid f (AtExpr c.args.update.0) next c.in-Ok.end c.in-Ok.ensures.later c.in-Ok.ensures.does)
    (round_next m mid f c.args.node (λ t env. next t env (completion_in t c.in-Ok.end)) c.after_update.result (λ t more env. c.after_update.ensures.is t c.args.node.0 env))

pub update_run-returns-in-Err-clause-later : goal.loops::update_run-returns-in-Err-clause-later
update_run-returns-in-Err-clause-later g t c =
    let m = g.S.WorldStore.meaning in
    let s = c.effect.new.stops in
    let k = c.waits.new.stops in
    broke_later m Completion (Option Completion) c.args.config.now c.effect.new.config c.waits.new.config c.args.frame.now c.args.node [] (points.Stmt stmt.ForUpdate) c.in-Err.end s.waits s.top c.waits.result k.waits k.top
    c.waits.ensures.same c.waits.ensures.waits c.in-Err.ensures.later

pub update_run-returns-in-Err-clause-found : goal.loops::update_run-returns-in-Err-clause-found
update_run-returns-in-Err-clause-found g t c =
    let m = g.S.WorldStore.meaning in
    let s = c.effect.new.stops in
    let k = c.waits.new.stops in
    broke_found m Completion (Option Completion) c.args.config.now c.effect.new.config c.waits.new.config c.args.frame.now c.args.node [] (points.Stmt stmt.ForUpdate) c.in-Err.end s.waits s.top c.waits.result k.waits k.top
    c.waits.ensures.same c.waits.ensures.waits c.in-Err.ensures.later c.requires.there c.requires.node tt tt c.in-Err.ensures.found

pub update_run-returns-in-Err-clause-does : goal.loops::update_run-returns-in-Err-clause-does
update_run-returns-in-Err-clause-does g t c =
    let m = g.S.WorldStore.meaning in
    let s = c.effect.new.stops in
    let k = c.waits.new.stops in
    broke_does m Completion Completion c.args.config.now c.effect.new.config c.waits.new.config c.args.frame.now c.args.node [] (points.Stmt stmt.ForUpdate) c.in-Err.end s.waits s.top c.waits.result k.waits k.top
    c.waits.ensures.same c.waits.ensures.waits completion_in completion_in (AtExpr c.args.update.0) (λ t env. then_value (loops.loop_updated c.args.node.0 env)) (λ l t env. refl) (λ t env e. refl) c.in-Err.ensures.later c.in-Err.ensures.does
