-- What holds of the functions of `for_ins`.
use Rattle.std.proofs.Common.{◌≡◌, ◌<◌, rules, [], ◌∷◌, List, Option, None, Some, length, refl, subst, sym}
use Rattle.std.specs.Prelude.{Err, IfSome}
use Rattle.std.proofs.lemmas.Result.{MatchResult-at_ok, MatchResult-at_err}
use Rattle.wjs_base.specs.Text.{Has, Table}
use Rattle.wjs_base.specs.declared.values.Slot.{Slot}
use Rattle.wjs_base.specs.declared.values.Value.{Value}
use Rattle.wjs_by_content.specs.Tables.{value_in}
use Rattle.wjs_scope.specs.Places.{placed_names}
use Rattle.wjs_meaning.specs.Deeds.{AtExpr, AtStmt, AtTarget, then_reference, then_value, Act, Env, Completion as Meant}
use Rattle.wjs_model.specs.declared.config.Config.{Config}
use Rattle.wjs_model.specs.declared.frame.Completion.{Completion}
use Rattle.wjs_model.specs.declared.frame.Held.{Held}
use Rattle.wjs_model.specs.declared.frame.Held.TheVariants as holds
use Rattle.wjs_model.specs.declared.frame.Reference.{Reference}
use Rattle.wjs_model.specs.declared.point.Point.TheVariants as points
use Rattle.wjs_model.specs.declared.point.StmtPoint.TheVariants as stmt
use Rattle.wjs_model.specs.Contents.{completion_in, reference_in}
use Rattle.wjs_model.specs.Soundness.{Base, HasCompletion, HasReference, HasSlot, HasValue, IsThere, StandsHere}
use Rattle.wjs_frames.specs.Following.{Later}
use Rattle.wjs_frames.specs.Parts.{node_among}
use Rattle.wjs_frames.proofs.Parting.{stands_later}
use Rattle.wjs_heap_steps.proofs.Later.{later_same, later_twice}
use Rattle.wjs_loops.specs.declared.for_ins.Taker.{Taker}
use Rattle.wjs_loops.specs.declared.for_ins.Taker.TheVariants.{Target, Variable}
use Rattle.wjs_loops.proofs.Knowing.{variable_known, variable_named}
use Rattle.wjs_stopping.specs.declared.ends.Broken.TheVariants as ends
use Rattle.wjs_stopping.specs.Ends.{gives_in}
use Rattle.wjs_stopping.specs.Evaluating.{Evaluates, HasOutcome, InMemory, Leaves}
use Rattle.wjs_stopping.specs.Waiting.{at_node}
use Rattle.wjs_stopping.proofs.Evaluating.{leaves_all}
use Rattle.wjs_direct_lines.specs.Deeds.{form_here, line_here, refers_in}
use Rattle.wjs_direct.specs.Rounds.{HasRound}
use Rattle.wjs_direct.specs.Visits.{HoldsVisits, TakesNames, name_taken, next_left, over_left, visit_left, visited_then, visits_left}
use Rattle.wjs_direct_lines.proofs.Forming.{form_goes_on}
use Rattle.wjs_direct_lines.proofs.Parts.{broke_does, broke_found, broke_later, later_then}
use Rattle.wjs_direct_lines.proofs.Assigning.{broken_as}
use Rattle.wjs_direct_lines.proofs.Nesting.{comes_behind, part_left}
use Rattle.wjs_direct.proofs.Switching.{left_does}
use Rattle.wjs_direct.proofs.Visiting.{body_comes, body_leaves, body_waited, by_target, by_variable, holds_later, holds_others, naming_ends, object_waited, place_takes, taken_later, target_there, target_waited, visit_reached, visits_past}
use Rattle.wjs_direct.proofs.+direct.Goals as goal

-- its object

pub for_in-returns-in-Err-clause-later : goal.for_ins::for_in-returns-in-Err-clause-later
for_in-returns-in-Err-clause-later g t c =
    let s = c.value.new.stops in
    let k = c.waits.new.stops in
    broke_later g.S.WorldStore.meaning Value Completion c.args.config.now c.value.new.config c.waits.new.config c.args.frame.now c.args.node [] (points.Stmt (stmt.VisitsObject c.args.body)) c.in-Err.end s.waits s.top c.waits.result k.waits k.top
    c.waits.ensures.same c.waits.ensures.waits c.in-Err.ensures.later

pub for_in-returns-in-Err-clause-found : goal.for_ins::for_in-returns-in-Err-clause-found
for_in-returns-in-Err-clause-found g t c =
    let s = c.value.new.stops in
    let k = c.waits.new.stops in
    broke_found g.S.WorldStore.meaning Value Completion c.args.config.now c.value.new.config c.waits.new.config c.args.frame.now c.args.node [] (points.Stmt (stmt.VisitsObject c.args.body)) c.in-Err.end s.waits s.top c.waits.result k.waits k.top
    c.waits.ensures.same c.waits.ensures.waits c.in-Err.ensures.later c.requires.there c.requires.node tt c.requires.body c.in-Err.ensures.found

pub for_in-returns-in-Err-clause-does : goal.for_ins::for_in-returns-in-Err-clause-does
for_in-returns-in-Err-clause-does g t c =
    let m = g.S.WorldStore.meaning in
    let old = c.args.config.now in
    let mid = c.value.new.config in
    let f = c.args.frame.now in
    let s = c.value.new.stops in
    let k = c.waits.new.stops in
    broke_does m Value Completion old mid c.waits.new.config f c.args.node [] (points.Stmt (stmt.VisitsObject c.args.body)) c.in-Err.end s.waits s.top c.waits.result k.waits k.top
    c.waits.ensures.same c.waits.ensures.waits gives_in completion_in (AtExpr c.args.object.0) (λ t env. then_value (over_left c.args.node c.args.taker c.args.body t env))
    (λ l t env. object_waited m f c.args.node old mid c.args.taker c.args.body c.requires.taker l t env) (λ t env e. refl) c.in-Err.ensures.later c.in-Err.ensures.does

-- its visits

pub for_in-list_visits-requires : goal.for_ins::for_in-list_visits-requires
for_in-list_visits-requires g t c =
    let m = g.S.WorldStore.meaning in
    let old = c.args.config.now in
    let f = c.args.frame.now in
    let mid = c.value.new.config in
    let l = c.in-Ok.ensures.later in
    let base : Base m mid = l.base in
    let there : IsThere m mid f = l.frames f c.requires.there in
    let node : StandsHere mid f c.args.node = stands_later m old f mid c.args.node l c.requires.node in
    let over : HasValue mid c.in-Ok.over = c.in-Ok.ensures.found.0 in
    search (rules, base, there, node, over)

pub for_in-run_visits-done-requires : goal.for_ins::for_in-run_visits-done-requires
for_in-run_visits-done-requires g t c =
    let m = g.S.WorldStore.meaning in
    let old = c.args.config.now in
    let f = c.args.frame.now in
    let mid = c.value.new.config in
    let l = c.in-Ok.ensures.later in
    let had = c.list_visits.new.config in
    let e = c.in_ok-listed-in-Ok.ensures in
    let both : Later m old had = later_twice m old mid had l e.later in
    let base : Base m had = both.base in
    let there : IsThere m had f = both.frames f c.requires.there in
    let node : StandsHere had f c.args.node = stands_later m old f had c.args.node both c.requires.node in
    let empty : c.value.new.stops.waits ≡ [] = c.in-Ok.ensures.found.1 in
    let taker : TakesNames had f c.args.node c.args.taker = taken_later m f c.args.node old had c.args.taker c.requires.taker both in
    let body : StandsHere had f c.args.body = stands_later m old f had c.args.body both c.requires.body in
    let visits : HoldsVisits m had f c.args.node c.in-Ok-listed.visits = MatchResult-at_ok _ _ c.in-Ok-listed.visits c.in-Ok-listed.is e.found in
    search (rules, base, there, node, empty, taker, body, visits)

pub for_in-returns-in-Ok-listed-clause-later : goal.for_ins::for_in-returns-in-Ok-listed-clause-later
for_in-returns-in-Ok-listed-clause-later g t c =
    let m = g.S.WorldStore.meaning in
    let old = c.args.config.now in
    let mid = c.value.new.config in
    let had = c.list_visits.new.config in
    let e = c.in_ok-listed-in-Ok.ensures in
    let ran = c.run_visits-done.new.config in
    let same : record ran { frames = c.spare.new.self } ≡ ran = λ i. record ran { frames = c.spare.ensures i } in
    let done = c.run_visits-done.result in
    let both : Later m old had = later_twice m old mid had c.in-Ok.ensures.later e.later in
    subst (λ (x : Config g.row.S.Denot). InMemory done (Later m old x)) (sym same) (later_then m old had ran done both c.run_visits-done.ensures.later)

pub for_in-returns-in-Ok-listed-clause-found : goal.for_ins::for_in-returns-in-Ok-listed-clause-found
for_in-returns-in-Ok-listed-clause-found g t c =
    let ran = c.run_visits-done.new.config in
    let same : record ran { frames = c.spare.new.self } ≡ ran = λ i. record ran { frames = c.spare.ensures i } in
    let done = c.run_visits-done.result in
    let k = c.run_visits-done.new.stops in
    subst (λ (x : Config g.row.S.Denot). HasOutcome g.S.WorldStore.meaning HasCompletion x done k.waits k.top) (sym same) c.run_visits-done.ensures.found

pub for_in-returns-in-Ok-listed-clause-does : goal.for_ins::for_in-returns-in-Ok-listed-clause-does
for_in-returns-in-Ok-listed-clause-does g t c =
    let m = g.S.WorldStore.meaning in
    let old = c.args.config.now in
    let f = c.args.frame.now in
    let mid = c.value.new.config in
    let l = c.in-Ok.ensures.later in
    let had = c.list_visits.new.config in
    let e = c.in_ok-listed-in-Ok.ensures in
    let ran = c.run_visits-done.new.config in
    let same : record ran { frames = c.spare.new.self } ≡ ran = λ i. record ran { frames = c.spare.ensures i } in
    let done = c.run_visits-done.result in
    let s = c.value.new.stops in
    let k = c.run_visits-done.new.stops in
    let next : Table → Env → Meant → Act = λ u env. then_value (over_left c.args.node c.args.taker c.args.body u env) in
    let first = line_here m mid f (λ u env. over_left c.args.node c.args.taker c.args.body u env (value_in u c.in-Ok.over)) in
    let rest = line_here m had f (visits_left c.args.node c.args.taker c.args.body c.in-Ok-listed.visits.held) in
    subst (λ (x : Config g.row.S.Denot). Evaluates m (form_here m old f (AtExpr c.args.object.0) next) completion_in done k.waits k.top old x) (sym same)
    (form_goes_on m gives_in completion_in old mid ran f (AtExpr c.args.object.0) next c.in-Ok.over done s.waits s.top k.waits k.top l c.in-Ok.ensures.does
    (left_does m first rest mid had ran done k.waits k.top (MatchResult-at_ok _ _ c.in-Ok-listed.visits c.in-Ok-listed.is e.does c.args.taker c.args.body) c.run_visits-done.ensures.does))

-- it has none

pub for_in-returns-in-Err-listed-clause-later : goal.for_ins::for_in-returns-in-Err-listed-clause-later
for_in-returns-in-Err-listed-clause-later g t c =
    later_twice g.S.WorldStore.meaning c.args.config.now c.value.new.config c.list_visits.new.config c.in-Ok.ensures.later c.in_ok-listed-in-Ok.ensures.later

pub for_in-returns-in-Err-listed-clause-found : goal.for_ins::for_in-returns-in-Err-listed-clause-found
for_in-returns-in-Err-listed-clause-found g t c = (MatchResult-at_err _ _ c.in-Err-listed.error c.in-Err-listed.is c.in_ok-listed-in-Ok.ensures.found, c.in-Ok.ensures.found.1)

pub for_in-returns-in-Err-listed-clause-does : goal.for_ins::for_in-returns-in-Err-listed-clause-does
for_in-returns-in-Err-listed-clause-does g t c =
    let m = g.S.WorldStore.meaning in
    let old = c.args.config.now in
    let f = c.args.frame.now in
    let mid = c.value.new.config in
    let l = c.in-Ok.ensures.later in
    let had = c.list_visits.new.config in
    let e = c.in_ok-listed-in-Ok.ensures in
    let s = c.value.new.stops in
    let error = c.in-Err-listed.error in
    let thrown = MatchResult-at_err _ _ error c.in-Err-listed.is e.does c.args.taker c.args.body in
    let first = line_here m mid f (λ u env. over_left c.args.node c.args.taker c.args.body u env (value_in u c.in-Ok.over)) in
    let threw : Evaluates m {A = Completion} first completion_in (Err (ends.Throws error)) s.waits s.top mid had = record { by = λ go later r h. thrown.by go later r h } in
    form_goes_on m gives_in completion_in old mid had f (AtExpr c.args.object.0) (λ u env. then_value (over_left c.args.node c.args.taker c.args.body u env)) c.in-Ok.over
    (Err (ends.Throws error)) s.waits s.top s.waits s.top l c.in-Ok.ensures.does threw

-- one after the other

pub run_visits-rounds-init : goal.for_ins::run_visits-rounds-init
run_visits-rounds-init g t c = record {
  left = record { by = λ go later r h. h };
  later = later_same g.S.WorldStore.meaning c.args.config.now c.requires.base;
  empty = c.requires.empty;
  visits = c.requires.visits;
}

pub run_visits-visit_next-requires : goal.for_ins::run_visits-visit_next-requires
run_visits-visit_next-requires g t c =
    let m = g.S.WorldStore.meaning in
    let old = c.args.config.now in
    let f = c.args.frame.now in
    let mid = c.rounds.config in
    let l = c.rounds.invariant.later in
    let base : Base m mid = l.base in
    let there : IsThere m mid f = l.frames f c.requires.there in
    let node : StandsHere mid f c.args.node = stands_later m old f mid c.args.node l c.requires.node in
    let empty : c.rounds.stops.waits ≡ [] = c.rounds.invariant.empty in
    let taker : TakesNames mid f c.args.node c.args.taker = taken_later m f c.args.node old mid c.args.taker c.requires.taker l in
    let body : StandsHere mid f c.args.body = stands_later m old f mid c.args.body l c.requires.body in
    let visits : HoldsVisits m mid f c.args.node c.rounds.visits = c.rounds.invariant.visits in
    search (rules, base, there, node, empty, taker, body, visits)

pub run_visits-rounds-preserved : goal.for_ins::run_visits-rounds-preserved
run_visits-rounds-preserved g t c =
    let m = g.S.WorldStore.meaning in
    let old = c.args.config.now in
    let f = c.args.frame.now in
    let mid = c.rounds.config in
    let new = c.visit_next.new.config in
    let inv = c.rounds.invariant in
    let line_at : Config g.row.S.Denot → List Held → Table → (Meant → Act) → Act = λ x held. line_here m x f (visits_left c.args.node c.args.taker c.args.body held) in
    let before = c.args.visits.now.held in
    let between = c.rounds.visits.held in
    let behind = c.visit_next.new.visits.held in
    let one = subst (λ (o : Option Completion). Leaves m (line_at mid between) (next_left m new f c.args.node c.args.taker c.args.body behind o) mid new) c.in-None.is c.in-Ok.ensures.does in
    record {
      left = leaves_all m (line_at old before) (line_at mid between) (line_at new behind) old mid new inv.left one;
      later = later_twice m old mid new inv.later c.in-Ok.ensures.later;
      empty = c.in-Ok.ensures.found.1;
      visits = c.in-Ok.ensures.visits;
    }

pub run_visits-returns-in-Some-clause-later : goal.for_ins::run_visits-returns-in-Some-clause-later
run_visits-returns-in-Some-clause-later g t c =
    later_twice g.S.WorldStore.meaning c.args.config.now c.rounds.config c.visit_next.new.config c.rounds.invariant.later c.in-Ok.ensures.later

pub run_visits-returns-in-Some-clause-found : goal.for_ins::run_visits-returns-in-Some-clause-found
run_visits-returns-in-Some-clause-found g t c = (subst (λ (o : Option Completion). HasRound c.visit_next.new.config o) c.in-Some.is c.in-Ok.ensures.found.0, c.in-Ok.ensures.found.1)

pub run_visits-returns-in-Some-clause-does : goal.for_ins::run_visits-returns-in-Some-clause-does
run_visits-returns-in-Some-clause-does g t c =
    let m = g.S.WorldStore.meaning in
    let old = c.args.config.now in
    let f = c.args.frame.now in
    let mid = c.rounds.config in
    let new = c.visit_next.new.config in
    let line_at : Config g.row.S.Denot → List Held → Table → (Meant → Act) → Act = λ x held. line_here m x f (visits_left c.args.node c.args.taker c.args.body held) in
    let before = c.args.visits.now.held in
    let between = c.rounds.visits.held in
    let behind = c.visit_next.new.visits.held in
    let left : Option Completion → Table → (Meant → Act) → Act = next_left m new f c.args.node c.args.taker c.args.body behind in
    let one = subst (λ (o : Option Completion). Leaves m (line_at mid between) (left o) mid new) c.in-Some.is c.in-Ok.ensures.does in
    leaves_all m (line_at old before) (line_at mid between) (left (Some c.in-Some.end)) old mid new c.rounds.invariant.left one

pub run_visits-returns-in-Err-clause-later : goal.for_ins::run_visits-returns-in-Err-clause-later
run_visits-returns-in-Err-clause-later g t c =
    let m = g.S.WorldStore.meaning in
    let mid = c.rounds.config in
    let new = c.visit_next.new.config in
    later_then m {A = Completion} c.args.config.now mid new (Err c.in-Err.end) c.rounds.invariant.later (broken_as (Option Completion) Completion (Later m mid new) c.in-Err.end c.in-Err.ensures.later)

pub run_visits-returns-in-Err-clause-does : goal.for_ins::run_visits-returns-in-Err-clause-does
run_visits-returns-in-Err-clause-does g t c =
    let m = g.S.WorldStore.meaning in
    let old = c.args.config.now in
    let f = c.args.frame.now in
    let mid = c.rounds.config in
    let new = c.visit_next.new.config in
    let k = c.visit_next.new.stops in
    let line_at : Config g.row.S.Denot → List Held → Table → (Meant → Act) → Act = λ x held. line_here m x f (visits_left c.args.node c.args.taker c.args.body held) in
    comes_behind m (line_at old c.args.visits.now.held) (line_at mid c.rounds.visits.held) (next_left m new f c.args.node c.args.taker c.args.body c.visit_next.new.visits.held) (Err c.in-Err.end) k.waits k.top old mid new
    c.rounds.invariant.left c.in-Err.ensures.does

-- the next one

pub visit_next-next_present-requires : goal.for_ins::visit_next-next_present-requires
visit_next-next_present-requires g t c =
    let there : IsThere g.S.WorldStore.meaning c.args.config.now c.args.visits.now = c.requires.visits.1 in
    search (rules, there)

-- a target takes its name

pub visit_next-visit_target-requires : goal.for_ins::visit_next-visit_target-requires
visit_next-visit_target-requires g t c =
    let m = g.S.WorldStore.meaning in
    let old = c.args.config.now in
    let f = c.args.frame.now in
    let mid = c.next_present.new.config in
    let l = c.in_ok-found.ensures.later in
    let base : Base m mid = l.base in
    let there : IsThere m mid f = l.frames f c.requires.there in
    let node : StandsHere mid f c.args.node = stands_later m old f mid c.args.node l c.requires.node in
    let empty : c.args.stops.now.waits ≡ [] = c.requires.empty in
    let taker : TakesNames mid f c.args.node (Target c.in-Target.t) = subst (λ (x : Taker). TakesNames mid f c.args.node x) c.in-Target.is (taken_later m f c.args.node old mid c.args.taker c.requires.taker l) in
    let target : StandsHere mid f c.in-Target.t = target_there m f c.args.node mid c.in-Target.t there node taker in
    let body : StandsHere mid f c.args.body = stands_later m old f mid c.args.body l c.requires.body in
    let slot : HasSlot mid c.in-Some.slot = subst (λ (o : Option Slot). IfSome o (HasSlot mid)) c.in-Some.is c.in_ok-found.ensures.found in
    let visits : HoldsVisits m mid f c.args.node c.next_present.new.frame = holds_others m f c.args.node mid c.args.visits.now c.next_present.new.frame c.requires.visits.0 c.in_ok-found.ensures.frame c.in_ok-found.ensures.there in
    search (rules, base, there, node, empty, taker, target, body, slot, visits)

pub visit_next-returns-in-Target-clause-later : goal.for_ins::visit_next-returns-in-Target-clause-later
visit_next-returns-in-Target-clause-later g t c =
    later_then g.S.WorldStore.meaning c.args.config.now c.next_present.new.config c.visit_target.new.config c.visit_target.result c.in_ok-found.ensures.later c.visit_target.ensures.later

pub visit_next-returns-in-Target-clause-does : goal.for_ins::visit_next-returns-in-Target-clause-does
visit_next-returns-in-Target-clause-does g t c =
    let m = g.S.WorldStore.meaning in
    let old = c.args.config.now in
    let f = c.args.frame.now in
    let mid = c.next_present.new.config in
    let l = c.in_ok-found.ensures.later in
    let r = c.visit_target in
    let new = r.new.config in
    let k = r.new.stops in
    let before = c.args.visits.now in
    let held = c.next_present.new.frame.held in
    comes_behind m (line_here m old f (visits_left c.args.node c.args.taker c.args.body before.held)) (line_here m mid f (visit_left c.args.node c.args.taker c.args.body held c.in-Some.slot)) (next_left m new f c.args.node c.args.taker c.args.body r.new.visits.held) r.result k.waits k.top old mid new
    (visit_reached m f c.args.node old mid before held c.args.taker c.args.body c.requires.visits.0 c.in_ok-found.found c.in-Some.slot c.in-Some.is l c.in_ok-found.ensures.reaches)
    (by_target m f c.args.node mid new c.args.taker c.in-Target.t c.args.body held r.new.visits.held c.in-Some.slot r.result k.waits k.top c.in-Target.is r.ensures.does)

-- a variable does

pub visit_next-reference_at-reference-requires : goal.for_ins::visit_next-reference_at-reference-requires
visit_next-reference_at-reference-requires g t c =
    let m = g.S.WorldStore.meaning in
    let old = c.args.config.now in
    let f = c.args.frame.now in
    let mid = c.next_present.new.config in
    let l = c.in_ok-found.ensures.later in
    let base : Base m mid = l.base in
    let there : IsThere m mid f = l.frames f c.requires.there in
    let taker : TakesNames mid f c.args.node (Variable c.in-Variable.name) = subst (λ (x : Taker). TakesNames mid f c.args.node x) c.in-Variable.is (taken_later m f c.args.node old mid c.args.taker c.requires.taker l) in
    let text : Has mid.heap.texts c.in-Variable.name = variable_known m mid (at_node f c.args.node []) c.in-Variable.name taker base in
    search (rules, base, there, text)

pub visit_next-named-requires : goal.for_ins::visit_next-named-requires
visit_next-named-requires g t c =
    let m = g.S.WorldStore.meaning in
    let old = c.args.config.now in
    let f = c.args.frame.now in
    let mid = c.next_present.new.config in
    let l = c.in_ok-found.ensures.later in
    let base : Base m mid = l.base in
    let there : IsThere m mid f = l.frames f c.requires.there in
    let node : StandsHere mid f c.args.node = stands_later m old f mid c.args.node l c.requires.node in
    let empty : c.args.stops.now.waits ≡ [] = c.requires.empty in
    let taker : TakesNames mid f c.args.node (Variable c.in-Variable.name) = subst (λ (x : Taker). TakesNames mid f c.args.node x) c.in-Variable.is (taken_later m f c.args.node old mid c.args.taker c.requires.taker l) in
    let body : StandsHere mid f c.args.body = stands_later m old f mid c.args.body l c.requires.body in
    let slot : HasSlot mid c.in-Some.slot = subst (λ (o : Option Slot). IfSome o (HasSlot mid)) c.in-Some.is c.in_ok-found.ensures.found in
    let reference : HasReference mid c.reference_at-reference.result = c.reference_at-reference.ensures.found in
    let visits : HoldsVisits m mid f c.args.node c.next_present.new.frame = holds_others m f c.args.node mid c.args.visits.now c.next_present.new.frame c.requires.visits.0 c.in_ok-found.ensures.frame c.in_ok-found.ensures.there in
    search (rules, base, there, node, empty, taker, body, slot, reference, visits)

pub visit_next-returns-in-Variable-clause-later : goal.for_ins::visit_next-returns-in-Variable-clause-later
visit_next-returns-in-Variable-clause-later g t c =
    later_then g.S.WorldStore.meaning c.args.config.now c.next_present.new.config c.named.new.config c.named.result c.in_ok-found.ensures.later c.named.ensures.later

pub visit_next-returns-in-Variable-clause-does : goal.for_ins::visit_next-returns-in-Variable-clause-does
visit_next-returns-in-Variable-clause-does g t c =
    let m = g.S.WorldStore.meaning in
    let old = c.args.config.now in
    let f = c.args.frame.now in
    let mid = c.next_present.new.config in
    let l = c.in_ok-found.ensures.later in
    let name = c.in-Variable.name in
    let slot = c.in-Some.slot in
    let r = c.named in
    let new = r.new.config in
    let k = r.new.stops in
    let q = c.reference_at-reference in
    let before = c.args.visits.now in
    let held = c.next_present.new.frame.held in
    let taker : TakesNames mid f c.args.node (Variable name) = subst (λ (x : Taker). TakesNames mid f c.args.node x) c.in-Variable.is (taken_later m f c.args.node old mid c.args.taker c.requires.taker l) in
    let placed : 0 < length (placed_names (node_among mid.units.items f.tree c.args.node)) = variable_named m mid (at_node f c.args.node []) name taker in
    comes_behind m (line_here m old f (visits_left c.args.node c.args.taker c.args.body before.held)) (line_here m mid f (visit_left c.args.node c.args.taker c.args.body held slot)) (next_left m new f c.args.node c.args.taker c.args.body r.new.visits.held) r.result k.waits k.top old mid new
    (visit_reached m f c.args.node old mid before held c.args.taker c.args.body c.requires.visits.0 c.in_ok-found.found slot c.in-Some.is l c.in_ok-found.ensures.reaches)
    (by_variable m f c.args.node mid new c.args.taker name c.args.body held r.new.visits.held slot r.result k.waits k.top c.in-Variable.is
    (comes_behind m (line_here m mid f (visit_left c.args.node (Variable name) c.args.body held slot)) (line_here m mid f (λ u env. name_taken c.args.node (Variable name) c.args.body held slot u env (reference_in u q.result)))
    (next_left m new f c.args.node (Variable name) c.args.body r.new.visits.held) r.result k.waits k.top mid mid new
    (place_takes m f c.args.node mid name c.args.body held slot c.place_at-place.result q.result (c.place_at-place.ensures placed) q.ensures.does) r.ensures.does))

-- none is present

pub visit_next-returns-in-None-clause-later : goal.for_ins::visit_next-returns-in-None-clause-later
visit_next-returns-in-None-clause-later g t c = c.in_ok-found.ensures.later

pub visit_next-returns-in-None-clause-found : goal.for_ins::visit_next-returns-in-None-clause-found
visit_next-returns-in-None-clause-found g t c = (tt, c.requires.empty)

pub visit_next-returns-in-None-clause-visits : goal.for_ins::visit_next-returns-in-None-clause-visits
visit_next-returns-in-None-clause-visits g t c =
    holds_others g.S.WorldStore.meaning c.args.frame.now c.args.node c.next_present.new.config c.args.visits.now c.next_present.new.frame c.requires.visits.0 c.in_ok-found.ensures.frame c.in_ok-found.ensures.there

pub visit_next-returns-in-None-clause-does : goal.for_ins::visit_next-returns-in-None-clause-does
visit_next-returns-in-None-clause-does g t c =
    visits_past g.S.WorldStore.meaning c.args.frame.now c.args.node c.args.config.now c.next_present.new.config c.args.visits.now c.next_present.new.frame.held c.args.taker c.args.body c.requires.visits.0 c.in_ok-found.found c.in-None.is c.in_ok-found.ensures.reaches

-- the reference of a target

pub visit_target-named-requires : goal.for_ins::visit_target-named-requires
visit_target-named-requires g t c =
    let m = g.S.WorldStore.meaning in
    let old = c.args.config.now in
    let f = c.args.frame.now in
    let mid = c.target.new.config in
    let l = c.in-Ok.ensures.later in
    let base : Base m mid = l.base in
    let there : IsThere m mid f = l.frames f c.requires.there in
    let node : StandsHere mid f c.args.node = stands_later m old f mid c.args.node l c.requires.node in
    let empty : c.target.new.stops.waits ≡ [] = c.in-Ok.ensures.found.1 in
    let taker : TakesNames mid f c.args.node (Target c.args.t) = taken_later m f c.args.node old mid (Target c.args.t) c.requires.taker l in
    let body : StandsHere mid f c.args.body = stands_later m old f mid c.args.body l c.requires.body in
    let slot : HasSlot mid c.args.slot = (l.objects c.args.slot.object c.requires.slot.0, l.names c.args.slot.name c.requires.slot.1) in
    let reference : HasReference mid c.in-Ok.reference = c.in-Ok.ensures.found.0 in
    let visits : HoldsVisits m mid f c.args.node c.args.visits.now = holds_later m f c.args.node old mid c.args.visits.now c.requires.visits l in
    search (rules, base, there, node, empty, taker, body, slot, reference, visits)

pub visit_target-returns-in-Ok-clause-later : goal.for_ins::visit_target-returns-in-Ok-clause-later
visit_target-returns-in-Ok-clause-later g t c =
    later_then g.S.WorldStore.meaning c.args.config.now c.target.new.config c.named.new.config c.named.result c.in-Ok.ensures.later c.named.ensures.later

pub visit_target-returns-in-Ok-clause-does : goal.for_ins::visit_target-returns-in-Ok-clause-does
visit_target-returns-in-Ok-clause-does g t c =
    let m = g.S.WorldStore.meaning in
    let old = c.args.config.now in
    let f = c.args.frame.now in
    let mid = c.target.new.config in
    let new = c.named.new.config in
    let k = c.named.new.stops in
    let next : Table → Env → Meant → Act = λ u env. then_reference (name_taken c.args.node (Target c.args.t) c.args.body c.args.visits.now.held c.args.slot u env) in
    comes_behind m (form_here m old f (AtTarget c.args.t.0) next) (line_here m mid f (λ u env. next u env (refers_in u c.in-Ok.reference))) (next_left m new f c.args.node (Target c.args.t) c.args.body c.named.new.visits.held) c.named.result k.waits k.top old mid new
    (part_left m refers_in old mid f (AtTarget c.args.t.0) next c.in-Ok.reference c.in-Ok.ensures.later c.in-Ok.ensures.does) c.named.ensures.does

pub visit_target-returns-in-Err-clause-later : goal.for_ins::visit_target-returns-in-Err-clause-later
visit_target-returns-in-Err-clause-later g t c =
    let s = c.target.new.stops in
    let r = c.target_waits in
    let k = r.new.stops in
    broke_later g.S.WorldStore.meaning Reference (Option Completion) c.args.config.now c.target.new.config r.new.config c.args.frame.now c.args.node (holds.Visit c.args.slot ∷ c.args.visits.now.held) (points.Stmt (stmt.VisitTarget c.args.body)) c.in-Err.end s.waits s.top r.result k.waits k.top
    r.ensures.same r.ensures.waits c.in-Err.ensures.later

pub visit_target-returns-in-Err-clause-found : goal.for_ins::visit_target-returns-in-Err-clause-found
visit_target-returns-in-Err-clause-found g t c =
    let s = c.target.new.stops in
    let r = c.target_waits in
    let k = r.new.stops in
    broke_found g.S.WorldStore.meaning Reference (Option Completion) c.args.config.now c.target.new.config r.new.config c.args.frame.now c.args.node (holds.Visit c.args.slot ∷ c.args.visits.now.held) (points.Stmt (stmt.VisitTarget c.args.body)) c.in-Err.end s.waits s.top r.result k.waits k.top
    r.ensures.same r.ensures.waits c.in-Err.ensures.later c.requires.there c.requires.node (c.requires.slot, c.requires.visits.1.held) c.requires.body c.in-Err.ensures.found

pub visit_target-returns-in-Err-clause-does : goal.for_ins::visit_target-returns-in-Err-clause-does
visit_target-returns-in-Err-clause-does g t c =
    let m = g.S.WorldStore.meaning in
    let old = c.args.config.now in
    let f = c.args.frame.now in
    let mid = c.target.new.config in
    let s = c.target.new.stops in
    let r = c.target_waits in
    let k = r.new.stops in
    let held = c.args.visits.now.held in
    broke_does m Reference Completion old mid r.new.config f c.args.node (holds.Visit c.args.slot ∷ held) (points.Stmt (stmt.VisitTarget c.args.body)) c.in-Err.end s.waits s.top r.result k.waits k.top
    r.ensures.same r.ensures.waits refers_in completion_in (AtTarget c.args.t.0) (λ u env. then_reference (name_taken c.args.node (Target c.args.t) c.args.body held c.args.slot u env))
    (λ l u env. target_waited m f c.args.node old mid (Target c.args.t) c.args.body c.requires.taker l u env held c.args.slot) (λ u env e. refl) c.in-Err.ensures.later c.in-Err.ensures.does

-- its name is stored, and its body is run

pub named-statement-requires : goal.for_ins::named-statement-requires
named-statement-requires g t c =
    let m = g.S.WorldStore.meaning in
    let old = c.args.config.now in
    let f = c.args.frame.now in
    let mid = c.store_name.new.config in
    let l = c.in_ok-end.ensures.later in
    let base : Base m mid = l.base in
    let there : IsThere m mid f = l.frames f c.requires.there in
    let node : StandsHere mid f c.args.body = stands_later m old f mid c.args.body l c.requires.body in
    let empty : c.args.stops.now.waits ≡ [] = c.requires.empty in
    search (rules, base, there, node, empty)

pub named-body_ended-requires : goal.for_ins::named-body_ended-requires
named-body_ended-requires g t c =
    let new = c.statement.new.config in
    let base : Base g.S.WorldStore.meaning new = c.in-Ok.ensures.later.base in
    let end : HasCompletion new c.in-Ok.end = c.in-Ok.ensures.found.0 in
    search (rules, base, end)

pub named-returns-in-Ok-clause-later : goal.for_ins::named-returns-in-Ok-clause-later
named-returns-in-Ok-clause-later g t c =
    later_twice g.S.WorldStore.meaning c.args.config.now c.store_name.new.config c.statement.new.config c.in_ok-end.ensures.later c.in-Ok.ensures.later

pub named-returns-in-Ok-clause-found : goal.for_ins::named-returns-in-Ok-clause-found
named-returns-in-Ok-clause-found g t c = (c.body_ended.ensures.found, c.in-Ok.ensures.found.1)

pub named-returns-in-Ok-clause-visits : goal.for_ins::named-returns-in-Ok-clause-visits
named-returns-in-Ok-clause-visits g t c =
    let m = g.S.WorldStore.meaning in
    let old = c.args.config.now in
    let f = c.args.frame.now in
    let mid = c.store_name.new.config in
    let v = c.args.visits.now in
    holds_later m f c.args.node mid c.statement.new.config v (holds_later m f c.args.node old mid v c.requires.visits c.in_ok-end.ensures.later) c.in-Ok.ensures.later

pub named-returns-in-Ok-clause-does : goal.for_ins::named-returns-in-Ok-clause-does
named-returns-in-Ok-clause-does g t c =
    let m = g.S.WorldStore.meaning in
    let old = c.args.config.now in
    let f = c.args.frame.now in
    let mid = c.store_name.new.config in
    let new = c.statement.new.config in
    let held = c.args.visits.now.held in
    let next : Table → Env → Meant → Act = visited_then c.args.node c.args.taker c.args.body held in
    let naming = line_here m old f (λ u env. name_taken c.args.node c.args.taker c.args.body held c.args.slot u env (reference_in u c.args.reference)) in
    let form = form_here m mid f (AtStmt c.args.body.0) next in
    let left = next_left m new f c.args.node c.args.taker c.args.body held c.body_ended.result in
    leaves_all m naming form left old mid new
    (body_comes m f c.args.node old mid c.args.taker c.args.body held c.args.slot c.args.reference c.in_ok-end.end c.in_ok-end.ensures.later c.in_ok-end.ensures.does c.in-Normal.is)
    (leaves_all m form (line_here m new f (λ u env. next u env (completion_in u c.in-Ok.end))) left mid new new
    (part_left m completion_in mid new f (AtStmt c.args.body.0) next c.in-Ok.end c.in-Ok.ensures.later c.in-Ok.ensures.does)
    (body_leaves m f c.args.node new c.args.taker c.args.body held c.in-Ok.end c.body_ended.result c.body_ended.ensures.is))

pub named-returns-in-Err-clause-later : goal.for_ins::named-returns-in-Err-clause-later
named-returns-in-Err-clause-later g t c =
    let m = g.S.WorldStore.meaning in
    let mid = c.store_name.new.config in
    let s = c.statement.new.stops in
    let r = c.visits_wait in
    let k = r.new.stops in
    later_then m {A = Option Completion} c.args.config.now mid r.new.config (Err r.result) c.in_ok-end.ensures.later
    (broke_later m Completion (Option Completion) mid c.statement.new.config r.new.config c.args.frame.now c.args.node c.args.visits.now.held (points.Stmt (stmt.VisitBody c.args.body)) c.in-Err.end s.waits s.top r.result k.waits k.top
    r.ensures.same r.ensures.waits c.in-Err.ensures.later)

pub named-returns-in-Err-clause-found : goal.for_ins::named-returns-in-Err-clause-found
named-returns-in-Err-clause-found g t c =
    let m = g.S.WorldStore.meaning in
    let old = c.args.config.now in
    let f = c.args.frame.now in
    let mid = c.store_name.new.config in
    let l = c.in_ok-end.ensures.later in
    let s = c.statement.new.stops in
    let r = c.visits_wait in
    let k = r.new.stops in
    let v = c.args.visits.now in
    let visits : HoldsVisits m mid f c.args.node v = holds_later m f c.args.node old mid v c.requires.visits l in
    broke_found m Completion (Option Completion) mid c.statement.new.config r.new.config f c.args.node v.held (points.Stmt (stmt.VisitBody c.args.body)) c.in-Err.end s.waits s.top r.result k.waits k.top
    r.ensures.same r.ensures.waits c.in-Err.ensures.later (l.frames f c.requires.there) (stands_later m old f mid c.args.node l c.requires.node) visits.1.held (stands_later m old f mid c.args.body l c.requires.body) c.in-Err.ensures.found

pub named-returns-in-Err-clause-does : goal.for_ins::named-returns-in-Err-clause-does
named-returns-in-Err-clause-does g t c =
    let m = g.S.WorldStore.meaning in
    let old = c.args.config.now in
    let f = c.args.frame.now in
    let mid = c.store_name.new.config in
    let new = c.statement.new.config in
    let l = c.in_ok-end.ensures.later in
    let s = c.statement.new.stops in
    let r = c.visits_wait in
    let k = r.new.stops in
    let held = c.args.visits.now.held in
    let next : Table → Env → Meant → Act = visited_then c.args.node c.args.taker c.args.body held in
    let taker : TakesNames mid f c.args.node c.args.taker = taken_later m f c.args.node old mid c.args.taker c.requires.taker l in
    comes_behind m (line_here m old f (λ u env. name_taken c.args.node c.args.taker c.args.body held c.args.slot u env (reference_in u c.args.reference))) (form_here m mid f (AtStmt c.args.body.0) next)
    (next_left m r.new.config f c.args.node c.args.taker c.args.body r.new.visits.held) (Err r.result) k.waits k.top old mid r.new.config
    (body_comes m f c.args.node old mid c.args.taker c.args.body held c.args.slot c.args.reference c.in_ok-end.end l c.in_ok-end.ensures.does c.in-Normal.is)
    (broke_does m Completion Completion mid new r.new.config f c.args.node held (points.Stmt (stmt.VisitBody c.args.body)) c.in-Err.end s.waits s.top r.result k.waits k.top
    r.ensures.same r.ensures.waits completion_in completion_in (AtStmt c.args.body.0) next
    (λ h u env. body_waited m f c.args.node mid new c.args.taker c.args.body taker h u env held) (λ u env e. refl) c.in-Err.ensures.later c.in-Err.ensures.does)

pub named-returns-in_default-clause-later : goal.for_ins::named-returns-in_default-clause-later
named-returns-in_default-clause-later g t c = c.in_ok-end.ensures.later

pub named-returns-in_default-clause-found : goal.for_ins::named-returns-in_default-clause-found
named-returns-in_default-clause-found g t c = (c.in_ok-end.ensures.found, c.requires.empty)

pub named-returns-in_default-clause-visits : goal.for_ins::named-returns-in_default-clause-visits
named-returns-in_default-clause-visits g t c =
    holds_later g.S.WorldStore.meaning c.args.frame.now c.args.node c.args.config.now c.store_name.new.config c.args.visits.now c.requires.visits c.in_ok-end.ensures.later

pub named-returns-in_default-clause-does : goal.for_ins::named-returns-in_default-clause-does
named-returns-in_default-clause-does g t c =
    naming_ends g.S.WorldStore.meaning c.args.frame.now c.args.node c.args.config.now c.store_name.new.config c.args.taker c.args.body c.args.visits.now.held c.args.slot c.args.reference c.in_ok-end.end
    c.in_ok-end.ensures.later c.in_ok-end.ensures.does c.in_default.not-Normal
