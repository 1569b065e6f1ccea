-- What holds of the functions of `do_loops`.
use Rattle.std.proofs.Common.{◌≡◌, ◌-◌, rules, [], Option, Some, refl, subst}
use Rattle.std.specs.Prelude.{Err}
use Rattle.wjs_base.specs.Text.{Table}
use Rattle.wjs_base.specs.declared.values.Value.{Value}
use Rattle.wjs_meaning.specs.Deeds.{AtExpr, AtStmt, then_value, Again, Act, Sub, Env, Completion as Meant}
use Rattle.wjs_meaning.specs.Programs.{entry}
use Rattle.wjs_meaning.specs.Loops as loops
use Rattle.wjs_meaning.specs.Statements.{stmt_at}
use Rattle.wjs_model.specs.declared.frame.Completion.{Completion}
use Rattle.wjs_model.specs.Contents.{completion_in}
use Rattle.wjs_model.specs.Soundness.{Base, HasCompletion, HasValue, IsThere, StandsHere}
use Rattle.wjs_model.specs.declared.config.Config.{Config}
use Rattle.wjs_model.specs.declared.frame.Phase.TheVariants as phases
use Rattle.wjs_model.specs.declared.point.Start.TheVariants as starts
use Rattle.wjs_model.specs.declared.point.Point.TheVariants as points
use Rattle.wjs_model.specs.declared.point.StmtPoint.TheVariants as stmt
use Rattle.wjs_frames.specs.Parts.{env_in}
use Rattle.wjs_frames.proofs.Parting.{stands_later}
use Rattle.wjs_frames.specs.Following.{Later}
use Rattle.wjs_frames.specs.declared.part.Part.TheVariants as part
use Rattle.wjs_heap_steps.proofs.Later.{later_same, later_twice}
use Rattle.wjs_quick.proofs.Coming.{later_left}
use Rattle.wjs_stopping.specs.Ends.{gives_in}
use Rattle.wjs_stopping.specs.Evaluating.{Leaves, outcome_in}
use Rattle.wjs_direct_lines.specs.Deeds.{goal_here, line_here, form_here}
use Rattle.wjs_stopping.proofs.Evaluating.{in_memory, leaves_all}
use Rattle.wjs_direct_lines.proofs.Parts.{broke_does, broke_found, broke_later, due_does, later_stopped, later_then, stop_found}
use Rattle.wjs_direct_lines.proofs.Assigning.{broken_as}
use Rattle.wjs_direct_lines.proofs.Nesting.{comes_behind, entry_broke, entry_left, line_begins, part_left}
use Rattle.wjs_direct.proofs.Looping.{asks_test, round_begun, round_ended, round_later, round_next}
use Rattle.wjs_direct.specs.Rounds.{HasRound, IsDo, do_round, round_left}
use Rattle.wjs_direct.proofs.+direct.Goals as goal

-- from the first iteration on

pub run_do-iterations-requires : goal.do_loops::run_do-iterations-requires
run_do-iterations-requires g t c =
    let m = g.S.WorldStore.meaning in
    let old = c.args.config.now in
    let f = c.args.frame.now in
    let mid = c.first.new.config in
    let l = c.in-Ok.ensures.later in
    let base : Base m mid = l.base in
    let there : IsThere m mid f = l.frames f c.requires.there in
    let node : StandsHere mid f c.args.node = stands_later m old f mid c.args.node l c.requires.node in
    let empty : c.first.new.stops.waits ≡ [] = c.in-Ok.ensures.found.1 in
    let is : IsDo m mid f c.args.node c.args.body c.args.test = round_later m old mid f c.args.node (do_round c.args.node c.args.body c.args.test) l c.requires.is in
    let test : StandsHere mid f c.args.test = stands_later m old f mid c.args.test l c.requires.test in
    let body : StandsHere mid f c.args.body = stands_later m old f mid c.args.body l c.requires.body in
    search (rules, base, there, node, empty, is, test, body)

pub run_do-returns-in-Some-clause-later : goal.do_loops::run_do-returns-in-Some-clause-later
run_do-returns-in-Some-clause-later g t c = c.in-Ok.ensures.later

pub run_do-returns-in-Some-clause-found : goal.do_loops::run_do-returns-in-Some-clause-found
run_do-returns-in-Some-clause-found g t c = (subst (λ (o : Option Completion). HasRound c.first.new.config o) c.in-Some.is c.in-Ok.ensures.found.0, c.in-Ok.ensures.found.1)

pub run_do-returns-in-Some-clause-does : goal.do_loops::run_do-returns-in-Some-clause-does
run_do-returns-in-Some-clause-does g t c =
    let m = g.S.WorldStore.meaning in
    let new = c.first.new.config in
    let old = c.args.config.now in
    let f = c.args.frame.now in
    subst (λ (o : Option Completion). Leaves m (form_here m old f (AtStmt c.args.body.0) (λ t env. loops.do_body c.args.node.0 c.args.test.0 env)) (round_left m new f c.args.node o) old new) c.in-Some.is c.in-Ok.ensures.does

pub run_do-returns-in-None-clause-later : goal.do_loops::run_do-returns-in-None-clause-later
run_do-returns-in-None-clause-later g t c =
    later_then g.S.WorldStore.meaning c.args.config.now c.first.new.config c.iterations.new.config c.iterations.result c.in-Ok.ensures.later c.iterations.ensures.later

pub run_do-returns-in-None-clause-does : goal.do_loops::run_do-returns-in-None-clause-does
run_do-returns-in-None-clause-does g t c =
    let m = g.S.WorldStore.meaning in
    let old = c.args.config.now in
    let mid = c.first.new.config in
    let f = c.args.frame.now in
    let from = form_here m old f (AtStmt c.args.body.0) (λ t env. loops.do_body c.args.node.0 c.args.test.0 env) in
    let one = subst (λ (o : Option Completion). Leaves m from (round_left m mid f c.args.node o) old mid) c.in-None.is c.in-Ok.ensures.does in
    let k = c.iterations.new.stops in
    in_memory c.iterations.result (leaves_all m from (goal_here m mid f (Again c.args.node.0)) (outcome_in m c.iterations.new.config completion_in c.iterations.result k.waits k.top) old mid c.iterations.new.config one) c.iterations.ensures.does

pub run_do-returns-in-Err-clause-later : goal.do_loops::run_do-returns-in-Err-clause-later
run_do-returns-in-Err-clause-later g t c =
    broken_as (Option Completion) Completion (Later g.S.WorldStore.meaning c.args.config.now c.first.new.config) c.in-Err.end c.in-Err.ensures.later

pub run_do-returns-in-Err-clause-does : goal.do_loops::run_do-returns-in-Err-clause-does
run_do-returns-in-Err-clause-does g t c = c.in-Err.ensures.does

-- the later ones

pub iterations-rounds-init : goal.do_loops::iterations-rounds-init
iterations-rounds-init g t c = record {
  left = record { by = λ go later r h. h };
  later = later_same g.S.WorldStore.meaning c.args.config.now c.requires.base;
  empty = c.requires.empty;
}

pub iterations-iteration-requires : goal.do_loops::iterations-iteration-requires
iterations-iteration-requires g t c =
    let m = g.S.WorldStore.meaning in
    let old = c.args.config.now in
    let f = c.args.frame.now in
    let mid = c.rounds.config in
    let now = record mid { left = mid.left - 1 } in
    let l = later_twice m old mid now c.rounds.invariant.later (later_left m mid (mid.left - 1) c.rounds.invariant.later.base) in
    let some = c.may_go_round.ensures.room c.rounds-test.true in
    let base : Base m now = l.base in
    let there : IsThere m now f = l.frames f c.requires.there in
    let node : StandsHere now f c.args.node = stands_later m old f now c.args.node l c.requires.node in
    let empty : c.rounds.stops.waits ≡ [] = c.rounds.invariant.empty in
    let test : StandsHere now f c.args.test = stands_later m old f now c.args.test l c.requires.test in
    let body : StandsHere now f c.args.body = stands_later m old f now c.args.body l c.requires.body in
    search (rules, some, base, there, node, empty, test, body)

pub iterations-rounds-preserved : goal.do_loops::iterations-rounds-preserved
iterations-rounds-preserved g t c =
    let m = g.S.WorldStore.meaning in
    let old = c.args.config.now in
    let f = c.args.frame.now in
    let mid = c.rounds.config in
    let now = record mid { left = mid.left - 1 } in
    let new = c.iteration.new.config in
    let inv = c.rounds.invariant in
    let l = later_left m mid (mid.left - 1) inv.later.base in
    let line = line_here m now f (λ t env. Sub (stmt_at c.args.body.0 env) (loops.do_body c.args.node.0 c.args.test.0 env)) in
    let goal_at : Config g.row.S.Denot → Table → (Meant → Act) → Act = λ x. goal_here m x f (Again c.args.node.0) in
    let begun = round_begun m mid f c.args.node (do_round c.args.node c.args.body c.args.test) (c.may_go_round.ensures.left c.rounds-test.true) (round_later m old mid f c.args.node (do_round c.args.node c.args.body c.args.test) inv.later c.requires.is) in
    let one = subst (λ (o : Option Completion). Leaves m line (round_left m new f c.args.node o) now new) c.in-None.is c.in-Ok.ensures.does in
    record {
      left = leaves_all m (goal_at old) (goal_at mid) (goal_at new) old mid new inv.left (leaves_all m (goal_at mid) line (goal_at new) mid now new begun one);
      later = later_twice m old mid new inv.later (later_twice m mid now new l c.in-Ok.ensures.later);
      empty = c.in-Ok.ensures.found.1;
    }

pub iterations-returns-in-Some-clause-later : goal.do_loops::iterations-returns-in-Some-clause-later
iterations-returns-in-Some-clause-later g t c =
    let m = g.S.WorldStore.meaning in
    let old = c.args.config.now in
    let mid = c.rounds.config in
    let now = record mid { left = mid.left - 1 } in
    let new = c.iteration.new.config in
    let inv = c.rounds.invariant in
    later_twice m old mid new inv.later (later_twice m mid now new (later_left m mid (mid.left - 1) inv.later.base) c.in-Ok.ensures.later)

pub iterations-returns-in-Some-clause-found : goal.do_loops::iterations-returns-in-Some-clause-found
iterations-returns-in-Some-clause-found g t c = (subst (λ (o : Option Completion). HasRound c.iteration.new.config o) c.in-Some.is c.in-Ok.ensures.found.0, c.in-Ok.ensures.found.1)

pub iterations-returns-in-Some-clause-does : goal.do_loops::iterations-returns-in-Some-clause-does
iterations-returns-in-Some-clause-does g t c =
    let m = g.S.WorldStore.meaning in
    let old = c.args.config.now in
    let f = c.args.frame.now in
    let mid = c.rounds.config in
    let now = record mid { left = mid.left - 1 } in
    let new = c.iteration.new.config in
    let inv = c.rounds.invariant in
    let line = line_here m now f (λ t env. Sub (stmt_at c.args.body.0 env) (loops.do_body c.args.node.0 c.args.test.0 env)) in
    let goal_at : Config g.row.S.Denot → Table → (Meant → Act) → Act = λ x. goal_here m x f (Again c.args.node.0) in
    let begun = round_begun m mid f c.args.node (do_round c.args.node c.args.body c.args.test) (c.may_go_round.ensures.left c.rounds-test.true) (round_later m old mid f c.args.node (do_round c.args.node c.args.body c.args.test) inv.later c.requires.is) in
    let one = subst (λ (o : Option Completion). Leaves m line (round_left m new f c.args.node o) now new) c.in-Some.is c.in-Ok.ensures.does in
    leaves_all m (goal_at old) (goal_at mid) (round_left m new f c.args.node (Some c.in-Some.end)) old mid new inv.left (leaves_all m (goal_at mid) line (round_left m new f c.args.node (Some c.in-Some.end)) mid now new begun one)

pub iterations-returns-in-Err-clause-later : goal.do_loops::iterations-returns-in-Err-clause-later
iterations-returns-in-Err-clause-later g t c =
    let m = g.S.WorldStore.meaning in
    let old = c.args.config.now in
    let mid = c.rounds.config in
    let now = record mid { left = mid.left - 1 } in
    let new = c.iteration.new.config in
    let inv = c.rounds.invariant in
    later_then m {A = Completion} old mid new (Err c.in-Err.end) inv.later
    (later_then m {A = Completion} mid now new (Err c.in-Err.end) (later_left m mid (mid.left - 1) inv.later.base) (broken_as (Option Completion) Completion (Later m now new) c.in-Err.end c.in-Err.ensures.later))

pub iterations-returns-in-Err-clause-does : goal.do_loops::iterations-returns-in-Err-clause-does
iterations-returns-in-Err-clause-does g t c =
    let m = g.S.WorldStore.meaning in
    let old = c.args.config.now in
    let f = c.args.frame.now in
    let mid = c.rounds.config in
    let now = record mid { left = mid.left - 1 } in
    let new = c.iteration.new.config in
    let inv = c.rounds.invariant in
    let k = c.iteration.new.stops in
    let line = line_here m now f (λ t env. Sub (stmt_at c.args.body.0 env) (loops.do_body c.args.node.0 c.args.test.0 env)) in
    let goal_at : Config g.row.S.Denot → Table → (Meant → Act) → Act = λ x. goal_here m x f (Again c.args.node.0) in
    let begun = round_begun m mid f c.args.node (do_round c.args.node c.args.body c.args.test) (c.may_go_round.ensures.left c.rounds-test.true) (round_later m old mid f c.args.node (do_round c.args.node c.args.body c.args.test) inv.later c.requires.is) in
    comes_behind m (goal_at old) (goal_at mid) (round_left m new f c.args.node) (Err c.in-Err.end) k.waits k.top old mid new inv.left
    (comes_behind m (goal_at mid) line (round_left m new f c.args.node) (Err c.in-Err.end) k.waits k.top mid now new begun c.in-Err.ensures.does)

pub iterations-returns-clause-later : goal.do_loops::iterations-returns-clause-later
iterations-returns-clause-later g t c =
    let m = g.S.WorldStore.meaning in
    let old = c.args.config.now in
    let mid = c.rounds.config in
    let inv = c.rounds.invariant in
    later_then m {A = Completion} old mid c.stop.new.config (Err c.stop.result) inv.later (later_stopped m {A = Completion} mid c.stop.new.config (Err c.stop.result) inv.later.base c.stop.ensures.same)

pub iterations-returns-clause-found : goal.do_loops::iterations-returns-clause-found
iterations-returns-clause-found g t c =
    let m = g.S.WorldStore.meaning in
    let old = c.args.config.now in
    let f = c.args.frame.now in
    let mid = c.rounds.config in
    let l = c.rounds.invariant.later in
    let s = c.stop.new.stops in
    stop_found m mid c.stop.new.config f c.args.node [] (phases.Due starts.Again) c.stop.result s.waits s.top c.stop.ensures.same
    (l.frames f c.requires.there) (stands_later m old f mid c.args.node l c.requires.node) tt tt c.stop.ensures.stops

pub iterations-returns-clause-does : goal.do_loops::iterations-returns-clause-does
iterations-returns-clause-does g t c =
    let m = g.S.WorldStore.meaning in
    let old = c.args.config.now in
    let f = c.args.frame.now in
    let mid = c.rounds.config in
    let s = c.stop.new.stops in
    let goal_at : Config g.row.S.Denot → Table → (Meant → Act) → Act = λ x. goal_here m x f (Again c.args.node.0) in
    comes_behind m (goal_at old) (goal_at mid) (round_left m c.stop.new.config f c.args.node) (Err c.stop.result) s.waits s.top old mid c.stop.new.config c.rounds.invariant.left
    (due_does m {A = Completion} completion_in mid c.stop.new.config f c.stop.result s.waits s.top c.stop.ensures.same (part.Again c.args.node) c.stop.ensures.stops)

-- the body of the first iteration

pub first-body_ended-requires : goal.do_loops::first-body_ended-requires
first-body_ended-requires g t c =
    let m = g.S.WorldStore.meaning in
    let old = c.args.config.now in
    let f = c.args.frame.now in
    let mid = c.statement.new.config in
    let l = c.in-Ok.ensures.later in
    let base : Base m mid = l.base in
    let there : IsThere m mid f = l.frames f c.requires.there in
    let node : StandsHere mid f c.args.node = stands_later m old f mid c.args.node l c.requires.node in
    let empty : c.statement.new.stops.waits ≡ [] = c.in-Ok.ensures.found.1 in
    let test : StandsHere mid f c.args.test = stands_later m old f mid c.args.test l c.requires.test in
    let end : HasCompletion mid c.in-Ok.end = c.in-Ok.ensures.found.0 in
    search (rules, base, there, node, empty, test, end)

pub first-returns-in-Ok-clause-later : goal.do_loops::first-returns-in-Ok-clause-later
first-returns-in-Ok-clause-later g t c =
    later_then g.S.WorldStore.meaning c.args.config.now c.statement.new.config c.body_ended.new.config c.body_ended.result c.in-Ok.ensures.later c.body_ended.ensures.later

pub first-returns-in-Ok-clause-does : goal.do_loops::first-returns-in-Ok-clause-does
first-returns-in-Ok-clause-does g t c =
    let m = g.S.WorldStore.meaning in
    let old = c.args.config.now in
    let mid = c.statement.new.config in
    let f = c.args.frame.now in
    let k = c.body_ended.new.stops in
    let next : Table → Env → Meant → Act = λ t env. loops.do_body c.args.node.0 c.args.test.0 env in
    comes_behind m (form_here m old f (AtStmt c.args.body.0) next) (line_here m mid f (λ t env. next t env (completion_in t c.in-Ok.end))) (round_left m c.body_ended.new.config f c.args.node) c.body_ended.result k.waits k.top old mid c.body_ended.new.config
    (part_left m completion_in old mid f (AtStmt c.args.body.0) next c.in-Ok.end c.in-Ok.ensures.later c.in-Ok.ensures.does) c.body_ended.ensures.does

pub first-returns-in-Err-clause-later : goal.do_loops::first-returns-in-Err-clause-later
first-returns-in-Err-clause-later g t c =
    let m = g.S.WorldStore.meaning in
    let s = c.statement.new.stops in
    let k = c.waits.new.stops in
    broke_later m Completion (Option Completion) c.args.config.now c.statement.new.config c.waits.new.config c.args.frame.now c.args.node [] (points.Stmt (stmt.DoBody c.args.test)) c.in-Err.end s.waits s.top c.waits.result k.waits k.top
    c.waits.ensures.same c.waits.ensures.waits c.in-Err.ensures.later

pub first-returns-in-Err-clause-found : goal.do_loops::first-returns-in-Err-clause-found
first-returns-in-Err-clause-found g t c =
    let m = g.S.WorldStore.meaning in
    let old = c.args.config.now in
    let f = c.args.frame.now in
    let s = c.statement.new.stops in
    let k = c.waits.new.stops in
    broke_found m Completion (Option Completion) old c.statement.new.config c.waits.new.config f c.args.node [] (points.Stmt (stmt.DoBody c.args.test)) c.in-Err.end s.waits s.top c.waits.result k.waits k.top
    c.waits.ensures.same c.waits.ensures.waits c.in-Err.ensures.later c.requires.there c.requires.node tt c.requires.test c.in-Err.ensures.found

pub first-returns-in-Err-clause-does : goal.do_loops::first-returns-in-Err-clause-does
first-returns-in-Err-clause-does g t c =
    let m = g.S.WorldStore.meaning in
    let s = c.statement.new.stops in
    let k = c.waits.new.stops in
    broke_does m Completion Completion c.args.config.now c.statement.new.config c.waits.new.config c.args.frame.now c.args.node [] (points.Stmt (stmt.DoBody c.args.test)) c.in-Err.end s.waits s.top c.waits.result k.waits k.top
    c.waits.ensures.same c.waits.ensures.waits completion_in completion_in (AtStmt c.args.body.0) (λ t env. loops.do_body c.args.node.0 c.args.test.0 env) (λ l t env. refl) (λ t env e. refl) c.in-Err.ensures.later c.in-Err.ensures.does

-- the body of a later one

pub iteration-body_ended-requires : goal.do_loops::iteration-body_ended-requires
iteration-body_ended-requires g t c =
    let m = g.S.WorldStore.meaning in
    let old = c.args.config.now in
    let f = c.args.frame.now in
    let mid = c.statement_form.new.config in
    let l = c.in-Ok.ensures.later in
    let base : Base m mid = l.base in
    let there : IsThere m mid f = l.frames f c.requires.there in
    let node : StandsHere mid f c.args.node = stands_later m old f mid c.args.node l c.requires.node in
    let empty : c.statement_form.new.stops.waits ≡ [] = c.in-Ok.ensures.found.1 in
    let test : StandsHere mid f c.args.test = stands_later m old f mid c.args.test l c.requires.test in
    let end : HasCompletion mid c.in-Ok.end = c.in-Ok.ensures.found.0 in
    search (rules, base, there, node, empty, test, end)

pub iteration-returns-in-Ok-clause-later : goal.do_loops::iteration-returns-in-Ok-clause-later
iteration-returns-in-Ok-clause-later g t c =
    later_then g.S.WorldStore.meaning c.args.config.now c.statement_form.new.config c.body_ended.new.config c.body_ended.result c.in-Ok.ensures.later c.body_ended.ensures.later

pub iteration-returns-in-Ok-clause-does : goal.do_loops::iteration-returns-in-Ok-clause-does
iteration-returns-in-Ok-clause-does g t c =
    let m = g.S.WorldStore.meaning in
    let old = c.args.config.now in
    let mid = c.statement_form.new.config in
    let f = c.args.frame.now in
    let k = c.body_ended.new.stops in
    let next : Table → Env → Meant → Act = λ t env. loops.do_body c.args.node.0 c.args.test.0 env in
    comes_behind m (line_here m old f (λ t env. Sub (entry (AtStmt c.args.body.0) env) (next t env))) (line_here m mid f (λ t env. next t env (completion_in t c.in-Ok.end))) (round_left m c.body_ended.new.config f c.args.node) c.body_ended.result k.waits k.top old mid c.body_ended.new.config
    (entry_left m completion_in old mid f (AtStmt c.args.body.0) next c.in-Ok.end c.in-Ok.ensures.later c.in-Ok.ensures.does) c.body_ended.ensures.does

pub iteration-returns-in-Err-clause-later : goal.do_loops::iteration-returns-in-Err-clause-later
iteration-returns-in-Err-clause-later g t c =
    let m = g.S.WorldStore.meaning in
    let s = c.statement_form.new.stops in
    let k = c.waits.new.stops in
    broke_later m Completion (Option Completion) c.args.config.now c.statement_form.new.config c.waits.new.config c.args.frame.now c.args.node [] (points.Stmt (stmt.DoBody c.args.test)) c.in-Err.end s.waits s.top c.waits.result k.waits k.top
    c.waits.ensures.same c.waits.ensures.waits c.in-Err.ensures.later

pub iteration-returns-in-Err-clause-found : goal.do_loops::iteration-returns-in-Err-clause-found
iteration-returns-in-Err-clause-found g t c =
    let m = g.S.WorldStore.meaning in
    let old = c.args.config.now in
    let f = c.args.frame.now in
    let s = c.statement_form.new.stops in
    let k = c.waits.new.stops in
    broke_found m Completion (Option Completion) old c.statement_form.new.config c.waits.new.config f c.args.node [] (points.Stmt (stmt.DoBody c.args.test)) c.in-Err.end s.waits s.top c.waits.result k.waits k.top
    c.waits.ensures.same c.waits.ensures.waits c.in-Err.ensures.later c.requires.there c.requires.node tt c.requires.test c.in-Err.ensures.found

pub iteration-returns-in-Err-clause-does : goal.do_loops::iteration-returns-in-Err-clause-does
iteration-returns-in-Err-clause-does g t c =
    let m = g.S.WorldStore.meaning in
    let s = c.statement_form.new.stops in
    let k = c.waits.new.stops in
    entry_broke m {A = Completion} {B = Completion} completion_in completion_in c.args.config.now c.statement_form.new.config c.waits.new.config c.args.frame.now (AtStmt c.args.body.0) (λ t env. loops.do_body c.args.node.0 c.args.test.0 env) c.args.node [] (points.Stmt (stmt.DoBody c.args.test))
    c.in-Err.end s.waits s.top c.waits.result k.waits k.top c.waits.ensures.same c.waits.ensures.waits (λ l t env. refl) (λ t env e. refl) c.in-Err.ensures.later c.in-Err.ensures.does

-- after the body

pub body_ended-returns-in-Again-clause-does : goal.do_loops::body_ended-returns-in-Again-clause-does
body_ended-returns-in-Again-clause-does g t c =
    let m = g.S.WorldStore.meaning in
    let old = c.args.config.now in
    let f = c.args.frame.now in
    let k = c.asked.new.stops in
    let next : Table → Env → Meant → Act = λ t env. then_value (loops.do_test c.args.node.0 env) in
    let act : Table → Env → Act = λ t env. loops.do_body c.args.node.0 c.args.test.0 env (completion_in t c.args.end) in
    comes_behind m (line_here m old f act) (form_here m old f (AtExpr c.args.test.0) next) (round_left m c.asked.new.config f c.args.node) c.asked.result k.waits k.top old old c.asked.new.config
    (line_begins m old f act (AtExpr c.args.test.0) next (λ t more. c.in-Again.ensures.means t more (asks_test c.args.node.0 c.args.test.0 (env_in m old t f)))) c.asked.ensures.does

pub body_ended-returns-in-Ends-clause-found : goal.do_loops::body_ended-returns-in-Ends-clause-found
body_ended-returns-in-Ends-clause-found g t c = (c.in-Ends.ensures.there, c.requires.empty)

pub body_ended-returns-in-Ends-clause-does : goal.do_loops::body_ended-returns-in-Ends-clause-does
body_ended-returns-in-Ends-clause-does g t c =
    let m = g.S.WorldStore.meaning in
    let old = c.args.config.now in
    let f = c.args.frame.now in
    let act : Table → Env → Act = λ t env. loops.do_body c.args.node.0 c.args.test.0 env (completion_in t c.args.end) in
    round_ended m old f c.args.node act c.in-Ends.ended (λ t more. c.in-Ends.ensures.means t more (asks_test c.args.node.0 c.args.test.0 (env_in m old t f)))

-- the test

pub asked-tested-requires : goal.do_loops::asked-tested-requires
asked-tested-requires g t c =
    let mid = c.value.new.config in
    let base : Base g.S.WorldStore.meaning mid = c.in-Ok.ensures.later.base in
    let truth : HasValue mid c.in-Ok.truth = c.in-Ok.ensures.found.0 in
    search (rules, base, truth)

pub asked-returns-in-Ok-clause-found : goal.do_loops::asked-returns-in-Ok-clause-found
asked-returns-in-Ok-clause-found g t c = (c.tested.ensures.found, c.in-Ok.ensures.found.1)

pub asked-returns-in-Ok-clause-does : goal.do_loops::asked-returns-in-Ok-clause-does
asked-returns-in-Ok-clause-does g t c =
    let m = g.S.WorldStore.meaning in
    let old = c.args.config.now in
    let mid = c.value.new.config in
    let f = c.args.frame.now in
    let next : Table → Env → Meant → Act = λ t env. then_value (loops.do_test c.args.node.0 env) in
    leaves_all m (form_here m old f (AtExpr c.args.test.0) next) (line_here m mid f (λ t env. next t env (gives_in t c.in-Ok.truth))) (round_left m mid f c.args.node c.tested.result) old mid mid
    (part_left m gives_in old mid f (AtExpr c.args.test.0) next c.in-Ok.truth c.in-Ok.ensures.later c.in-Ok.ensures.does)
    (round_next m mid f c.args.node (λ t env. next t env (gives_in t c.in-Ok.truth)) c.tested.result (λ t more env. c.tested.ensures.is t more c.args.node.0 env))

pub asked-returns-in-Err-clause-later : goal.do_loops::asked-returns-in-Err-clause-later
asked-returns-in-Err-clause-later g t c =
    let m = g.S.WorldStore.meaning in
    let s = c.value.new.stops in
    let k = c.waits.new.stops in
    broke_later m Value (Option Completion) c.args.config.now c.value.new.config c.waits.new.config c.args.frame.now c.args.node [] (points.Stmt stmt.DoTest) c.in-Err.end s.waits s.top c.waits.result k.waits k.top
    c.waits.ensures.same c.waits.ensures.waits c.in-Err.ensures.later

pub asked-returns-in-Err-clause-found : goal.do_loops::asked-returns-in-Err-clause-found
asked-returns-in-Err-clause-found g t c =
    let m = g.S.WorldStore.meaning in
    let s = c.value.new.stops in
    let k = c.waits.new.stops in
    broke_found m Value (Option Completion) c.args.config.now c.value.new.config c.waits.new.config c.args.frame.now c.args.node [] (points.Stmt stmt.DoTest) c.in-Err.end s.waits s.top c.waits.result k.waits k.top
    c.waits.ensures.same c.waits.ensures.waits c.in-Err.ensures.later c.requires.there c.requires.node tt tt c.in-Err.ensures.found

pub asked-returns-in-Err-clause-does : goal.do_loops::asked-returns-in-Err-clause-does
asked-returns-in-Err-clause-does g t c =
    let m = g.S.WorldStore.meaning in
    let s = c.value.new.stops in
    let k = c.waits.new.stops in
    broke_does m Value Completion c.args.config.now c.value.new.config c.waits.new.config c.args.frame.now c.args.node [] (points.Stmt stmt.DoTest) c.in-Err.end s.waits s.top c.waits.result k.waits k.top
    c.waits.ensures.same c.waits.ensures.waits gives_in completion_in (AtExpr c.args.test.0) (λ t env. then_value (loops.do_test c.args.node.0 env)) (λ l t env. refl) (λ t env e. refl) c.in-Err.ensures.later c.in-Err.ensures.does
