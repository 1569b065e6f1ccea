-- What holds of the functions of `switches`.
use Rattle.std.proofs.Common.{◌≡◌, ◌≤◌, ◌+◌, rules, arith, [], ◌∷◌, refl, ap, ◌∙◌, subst, sym}
use Rattle.std.specs.Prelude.{Err, Ok}
use Rattle.wjs_base.specs.declared.values.Value.{Value}
use Rattle.wjs_meaning.specs.Deeds.{AtExpr, AtStmt, Ret}
use Rattle.wjs_model.specs.declared.frame.Completion.{Completion}
use Rattle.wjs_model.specs.declared.frame.Completion.TheVariants as completions
use Rattle.wjs_model.specs.declared.frame.Held.TheVariants as holds
use Rattle.wjs_model.specs.declared.point.Point.TheVariants as points
use Rattle.wjs_model.specs.declared.point.StmtPoint.TheVariants as stmt
use Rattle.wjs_model.specs.Contents.{completion_in}
use Rattle.wjs_model.specs.Soundness.{Base, HasCompletion, HasValue, IsThere, StandsHere}
use Rattle.wjs_frames.proofs.Parting.{stands_later}
use Rattle.wjs_heap_steps.proofs.Later.{later_same, later_twice}
use Rattle.wjs_stopping.specs.Ends.{gives_in}
use Rattle.wjs_stopping.specs.Evaluating.{Leaves}
use Rattle.wjs_stopping.proofs.Evaluating.{leaves_all}
use Rattle.wjs_direct_lines.specs.Deeds.{form_here, goal_here, line_here}
use Rattle.wjs_direct.specs.Switches.{case_then, cases_left, clauses_left, default_left, sought_then, statement_then, statements_left}
use Rattle.wjs_direct_lines.proofs.Parts.{broke_does, broke_found, broke_later, form_ends, later_then}
use Rattle.wjs_direct.proofs.Switching.{case_begins, case_equal, case_there, case_unequal, case_waits, cases_come, clauses_begin, default_begins, default_comes, end_is, end_there, left_does, part_form, part_passed, part_there, part_waits, parts_end, value_waits}
use Rattle.wjs_direct.proofs.+direct.Goals as goal

-- its value

pub switch-cases-requires : goal.switches::switch-cases-requires
switch-cases-requires g t c =
    let m = g.S.WorldStore.meaning in
    let old = c.args.config.now in
    let f = c.args.frame.now in
    let mid = c.value.new.config in
    let l = c.in-Ok.ensures.later in
    let base : Base m mid = l.base in
    let there : IsThere m mid f = l.frames f c.requires.there in
    let node : StandsHere mid f c.args.node = stands_later m old f mid c.args.node l c.requires.node in
    let empty : c.value.new.stops.waits ≡ [] = c.in-Ok.ensures.found.1 in
    let sought : HasValue mid c.in-Ok.sought = c.in-Ok.ensures.found.0 in
    search (rules, base, there, node, empty, sought)

pub switch-returns-in-Ok-clause-later : goal.switches::switch-returns-in-Ok-clause-later
switch-returns-in-Ok-clause-later g t c =
    later_then g.S.WorldStore.meaning c.args.config.now c.value.new.config c.cases.new.config c.cases.result c.in-Ok.ensures.later c.cases.ensures.later

pub switch-returns-in-Ok-clause-does : goal.switches::switch-returns-in-Ok-clause-does
switch-returns-in-Ok-clause-does g t c =
    let s = c.value.new.stops in
    let k = c.cases.new.stops in
    cases_come g.S.WorldStore.meaning c.args.frame.now c.args.node c.args.config.now c.value.new.config c.cases.new.config c.args.e c.in-Ok.sought s.waits s.top c.cases.result k.waits k.top
    c.in-Ok.ensures.later c.in-Ok.ensures.does c.cases.ensures.does

pub switch-returns-in-Err-clause-later : goal.switches::switch-returns-in-Err-clause-later
switch-returns-in-Err-clause-later g t c =
    let s = c.value.new.stops in
    let k = c.waits.new.stops in
    broke_later g.S.WorldStore.meaning Value Completion c.args.config.now c.value.new.config c.waits.new.config c.args.frame.now c.args.node [] (points.Stmt stmt.SwitchValue) c.in-Err.end s.waits s.top c.waits.result k.waits k.top
    c.waits.ensures.same c.waits.ensures.waits c.in-Err.ensures.later

pub switch-returns-in-Err-clause-found : goal.switches::switch-returns-in-Err-clause-found
switch-returns-in-Err-clause-found g t c =
    let s = c.value.new.stops in
    let k = c.waits.new.stops in
    broke_found g.S.WorldStore.meaning Value Completion c.args.config.now c.value.new.config c.waits.new.config c.args.frame.now c.args.node [] (points.Stmt stmt.SwitchValue) c.in-Err.end s.waits s.top c.waits.result k.waits k.top
    c.waits.ensures.same c.waits.ensures.waits c.in-Err.ensures.later c.requires.there c.requires.node tt tt c.in-Err.ensures.found

pub switch-returns-in-Err-clause-does : goal.switches::switch-returns-in-Err-clause-does
switch-returns-in-Err-clause-does g t c =
    let m = g.S.WorldStore.meaning in
    let old = c.args.config.now in
    let mid = c.value.new.config in
    let f = c.args.frame.now in
    let s = c.value.new.stops in
    let k = c.waits.new.stops in
    broke_does m Value Completion old mid c.waits.new.config f c.args.node [] (points.Stmt stmt.SwitchValue) c.in-Err.end s.waits s.top c.waits.result k.waits k.top
    c.waits.ensures.same c.waits.ensures.waits gives_in completion_in (AtExpr c.args.e.0) (sought_then old f c.args.node)
    (value_waits m f c.args.node old mid) (λ t env e. refl) c.in-Err.ensures.later c.in-Err.ensures.does

-- its cases

pub cases-loop-case-init : goal.switches::cases-loop-case-init
cases-loop-case-init g t c = record {
  left = record { by = λ go later r h. h };
  later = later_same g.S.WorldStore.meaning c.args.config.now c.requires.base;
  empty = c.requires.empty;
}

pub cases-value-requires : goal.switches::cases-value-requires
cases-value-requires g t c =
    let m = g.S.WorldStore.meaning in
    let old = c.args.config.now in
    let f = c.args.frame.now in
    let mid = c.loop-case.config in
    let l = c.loop-case.invariant.later in
    let x = c.in-Some.case in
    let base : Base m mid = l.base in
    let there : IsThere m mid f = l.frames f c.requires.there in
    let node : StandsHere mid f c.in-Some.case.test =
    case_there m f c.args.node mid x.at x.test there (stands_later m old f mid c.args.node l c.requires.node) c.in-Some.ensures.is in
    let empty : c.loop-case.stops.waits ≡ [] = c.loop-case.invariant.empty in
    search (rules, base, there, node, empty)

pub cases-strictly_equal-requires : goal.switches::cases-strictly_equal-requires
cases-strictly_equal-requires g t c =
    let m = g.S.WorldStore.meaning in
    let l = later_twice m c.args.config.now c.loop-case.config c.value.new.config c.loop-case.invariant.later c.in-Ok.ensures.later in
    record {
      base = l.base;
      left = l.values c.args.sought c.requires.sought;
      right = c.in-Ok.ensures.found.0;
    }

pub cases-loop-case-preserved : goal.switches::cases-loop-case-preserved
cases-loop-case-preserved g t c =
    let m = g.S.WorldStore.meaning in
    let old = c.args.config.now in
    let mid = c.loop-case.config in
    let new = c.value.new.config in
    let f = c.args.frame.now in
    let v = c.args.sought in
    let inv = c.loop-case.invariant in
    let e = c.in-Ok in
    let x = c.in-Some.case in
    let first = line_here m old f (cases_left old f c.args.node v 0) in
    let here = line_here m mid f (cases_left mid f c.args.node v c.loop-case.from) in
    let behind = line_here m new f (cases_left new f c.args.node v c.in_ok-next.next) in
    let one = case_unequal m f c.args.node mid new c.loop-case.from c.in_ok-at.at v e.tested x c.in_ok-at.ensures c.in-Some.ensures.goes c.in-Some.ensures.is e.ensures.later e.ensures.does
    c.in_ok-next.next c.in_ok-next.ensures (λ t grows. c.strictly_equal.ensures t grows ∙ c.if-strictly_equal.false) in
    record {
      left = leaves_all m first here behind old mid new inv.left one;
      later = later_twice m old mid new inv.later e.ensures.later;
      empty = e.ensures.found.1;
    }

pub cases-loop-case-smaller : goal.switches::cases-loop-case-smaller
cases-loop-case-smaller g t c =
    let past : c.loop-case.from ≤ c.in-Some.case.at = c.in-Some.ensures.past in
    let here : c.in_ok-at.at ≡ c.in-Some.case.at = c.in_ok-at.ensures in
    let next : c.in_ok-next.next ≡ c.in_ok-at.at + 1 = c.in_ok-next.ensures in
    omega (arith, past, here, next)

-- one is equal

pub cases-run_clauses-requires : goal.switches::cases-run_clauses-requires
cases-run_clauses-requires g t c =
    let m = g.S.WorldStore.meaning in
    let old = c.args.config.now in
    let f = c.args.frame.now in
    let new = c.value.new.config in
    let l = later_twice m old c.loop-case.config new c.loop-case.invariant.later c.in-Ok.ensures.later in
    let base : Base m new = l.base in
    let there : IsThere m new f = l.frames f c.requires.there in
    let node : StandsHere new f c.args.node = stands_later m old f new c.args.node l c.requires.node in
    let empty : c.value.new.stops.waits ≡ [] = c.in-Ok.ensures.found.1 in
    let sought : HasValue new c.args.sought = l.values c.args.sought c.requires.sought in
    search (rules, base, there, node, empty, sought)

pub cases-returns-then-strictly_equal-clause-later : goal.switches::cases-returns-then-strictly_equal-clause-later
cases-returns-then-strictly_equal-clause-later g t c =
    let m = g.S.WorldStore.meaning in
    let old = c.args.config.now in
    let had = c.value.new.config in
    later_then m old had c.run_clauses.new.config c.run_clauses.result (later_twice m old c.loop-case.config had c.loop-case.invariant.later c.in-Ok.ensures.later) c.run_clauses.ensures.later

pub cases-returns-then-strictly_equal-clause-does : goal.switches::cases-returns-then-strictly_equal-clause-does
cases-returns-then-strictly_equal-clause-does g t c =
    let m = g.S.WorldStore.meaning in
    let old = c.args.config.now in
    let mid = c.loop-case.config in
    let had = c.value.new.config in
    let f = c.args.frame.now in
    let v = c.args.sought in
    let e = c.in-Ok in
    let x = c.in-Some.case in
    let k = c.run_clauses.new.stops in
    let first = line_here m old f (cases_left old f c.args.node v 0) in
    let here = line_here m mid f (cases_left mid f c.args.node v c.loop-case.from) in
    let rest = line_here m had f (clauses_left had f c.args.node c.in_ok-at.at) in
    let one = case_equal m f c.args.node mid had c.loop-case.from c.in_ok-at.at v e.tested x c.in_ok-at.ensures c.in-Some.ensures.goes c.in-Some.ensures.is e.ensures.later e.ensures.does
    (λ t grows. c.strictly_equal.ensures t grows ∙ c.if-strictly_equal.true) in
    left_does m first rest old had c.run_clauses.new.config c.run_clauses.result k.waits k.top (leaves_all m first here rest old mid had c.loop-case.invariant.left one) c.run_clauses.ensures.does

-- one breaks off

pub cases-returns-in-Err-clause-later : goal.switches::cases-returns-in-Err-clause-later
cases-returns-in-Err-clause-later g t c =
    let m = g.S.WorldStore.meaning in
    let mid = c.loop-case.config in
    let s = c.value.new.stops in
    let k = c.waits_holding.new.stops in
    later_then m {A = Completion} c.args.config.now mid c.waits_holding.new.config (Err c.waits_holding.result) c.loop-case.invariant.later
    (broke_later m Value Completion mid c.value.new.config c.waits_holding.new.config c.args.frame.now c.args.node (holds.Value c.args.sought ∷ []) (points.Stmt (stmt.CaseValue c.in_ok-at.at)) c.in-Err.end s.waits s.top c.waits_holding.result k.waits k.top
    c.waits_holding.ensures.same c.waits_holding.ensures.waits c.in-Err.ensures.later)

pub cases-returns-in-Err-clause-found : goal.switches::cases-returns-in-Err-clause-found
cases-returns-in-Err-clause-found g t c =
    let m = g.S.WorldStore.meaning in
    let mid = c.loop-case.config in
    let f = c.args.frame.now in
    let l = c.loop-case.invariant.later in
    let s = c.value.new.stops in
    let k = c.waits_holding.new.stops in
    broke_found m Value Completion mid c.value.new.config c.waits_holding.new.config f c.args.node (holds.Value c.args.sought ∷ []) (points.Stmt (stmt.CaseValue c.in_ok-at.at)) c.in-Err.end s.waits s.top c.waits_holding.result k.waits k.top
    c.waits_holding.ensures.same c.waits_holding.ensures.waits c.in-Err.ensures.later (l.frames f c.requires.there) (stands_later m c.args.config.now f mid c.args.node l c.requires.node) (l.values c.args.sought c.requires.sought, tt) tt c.in-Err.ensures.found

pub cases-returns-in-Err-clause-does : goal.switches::cases-returns-in-Err-clause-does
cases-returns-in-Err-clause-does g t c =
    let m = g.S.WorldStore.meaning in
    let old = c.args.config.now in
    let mid = c.loop-case.config in
    let new = c.value.new.config in
    let last = c.waits_holding.new.config in
    let f = c.args.frame.now in
    let v = c.args.sought in
    let x = c.in-Some.case in
    let s = c.value.new.stops in
    let k = c.waits_holding.new.stops in
    let end = c.waits_holding.result in
    let first = line_here m old f (cases_left old f c.args.node v 0) in
    let here = line_here m mid f (cases_left mid f c.args.node v c.loop-case.from) in
    let form = form_here m mid f (AtExpr x.test.0) (case_then mid f c.args.node v x.at) in
    left_does m first form old mid last (Err end) k.waits k.top (leaves_all m first here form old mid mid c.loop-case.invariant.left (case_begins m f c.args.node mid c.loop-case.from v x c.in-Some.ensures.goes))
    (broke_does m Value Completion mid new last f c.args.node (holds.Value v ∷ []) (points.Stmt (stmt.CaseValue c.in_ok-at.at)) c.in-Err.end s.waits s.top end k.waits k.top c.waits_holding.ensures.same c.waits_holding.ensures.waits
    gives_in completion_in (AtExpr x.test.0) (case_then mid f c.args.node v x.at) (case_waits m f c.args.node mid new v x.at c.in_ok-at.at c.in_ok-at.ensures) (λ t env e. refl) c.in-Err.ensures.later c.in-Err.ensures.does)

-- none is equal

pub cases-run_statements-requires : goal.switches::cases-run_statements-requires
cases-run_statements-requires g t c =
    let m = g.S.WorldStore.meaning in
    let old = c.args.config.now in
    let f = c.args.frame.now in
    let mid = c.loop-case.config in
    let l = c.loop-case.invariant.later in
    let base : Base m mid = l.base in
    let there : IsThere m mid f = l.frames f c.requires.there in
    let node : StandsHere mid f c.args.node = stands_later m old f mid c.args.node l c.requires.node in
    let empty : c.loop-case.stops.waits ≡ [] = c.loop-case.invariant.empty in
    let sought : HasValue mid c.args.sought = l.values c.args.sought c.requires.sought in
    search (rules, base, there, node, empty, sought)

pub cases-returns-clause-later : goal.switches::cases-returns-clause-later
cases-returns-clause-later g t c =
    later_then g.S.WorldStore.meaning c.args.config.now c.loop-case.config c.run_statements.new.config c.run_statements.result c.loop-case.invariant.later c.run_statements.ensures.later

pub cases-returns-clause-does : goal.switches::cases-returns-clause-does
cases-returns-clause-does g t c =
    let m = g.S.WorldStore.meaning in
    let old = c.args.config.now in
    let mid = c.loop-case.config in
    let f = c.args.frame.now in
    let v = c.args.sought in
    let at = c.in_ok-first.first in
    let k = c.run_statements.new.stops in
    let first = line_here m old f (cases_left old f c.args.node v 0) in
    let here = line_here m mid f (cases_left mid f c.args.node v c.loop-case.from) in
    let rest = line_here m mid f (default_left mid f c.args.node) in
    let last = line_here m mid f (statements_left mid f c.args.node at) in
    left_does m first last old mid c.run_statements.new.config c.run_statements.result k.waits k.top
    (leaves_all m first rest last old mid mid
    (leaves_all m first here rest old mid mid c.loop-case.invariant.left (default_comes m f c.args.node mid c.loop-case.from v c.in_default.ensures.goes))
    (default_begins m f c.args.node mid at c.in_ok-first.ensures)) c.run_statements.ensures.does

-- where its statements begin

pub run_clauses-returns-clause-does : goal.switches::run_clauses-returns-clause-does
run_clauses-returns-clause-does g t c =
    let m = g.S.WorldStore.meaning in
    let old = c.args.config.now in
    let f = c.args.frame.now in
    let at = c.in_ok-first.first in
    let k = c.run_statements.new.stops in
    left_does m (line_here m old f (clauses_left old f c.args.node c.args.clause)) (line_here m old f (statements_left old f c.args.node at)) old old c.run_statements.new.config c.run_statements.result k.waits k.top
    (clauses_begin m f c.args.node old c.args.clause at c.in_ok-first.ensures) c.run_statements.ensures.does

-- its statements

pub run_statements-loop-part-init : goal.switches::run_statements-loop-part-init
run_statements-loop-part-init g t c = record {
  left = record { by = λ go later r h. h };
  later = later_same g.S.WorldStore.meaning c.args.config.now c.requires.base;
  empty = c.requires.empty;
}

pub run_statements-statement-requires : goal.switches::run_statements-statement-requires
run_statements-statement-requires g t c =
    let m = g.S.WorldStore.meaning in
    let old = c.args.config.now in
    let f = c.args.frame.now in
    let mid = c.loop-part.config in
    let l = c.loop-part.invariant.later in
    let base : Base m mid = l.base in
    let there : IsThere m mid f = l.frames f c.requires.there in
    let node : StandsHere mid f c.in-Some.part =
    part_there m f c.args.node mid c.loop-part.at c.in-Some.part there (stands_later m old f mid c.args.node l c.requires.node) (sym c.in-Some.ensures) in
    let empty : c.loop-part.stops.waits ≡ [] = c.loop-part.invariant.empty in
    search (rules, base, there, node, empty)

pub run_statements-loop-part-preserved : goal.switches::run_statements-loop-part-preserved
run_statements-loop-part-preserved g t c =
    let m = g.S.WorldStore.meaning in
    let old = c.args.config.now in
    let mid = c.loop-part.config in
    let new = c.statement.new.config in
    let f = c.args.frame.now in
    let inv = c.loop-part.invariant in
    let e = c.in-Ok in
    let at = c.loop-part.at in
    let next = c.in_ok-next.next in
    let part = c.in-Some.part in
    let first = line_here m old f (statements_left old f c.args.node c.args.from) in
    let here = line_here m mid f (statements_left mid f c.args.node at) in
    let behind = line_here m new f (statements_left new f c.args.node next) in
    let done = subst (λ (x : Completion). Leaves m (goal_here m mid f (AtStmt part.0)) (λ t go. go (completion_in t x)) mid new) c.in-Normal.is e.ensures.does in
    record {
      left = leaves_all m first here behind old mid new inv.left (part_passed m f c.args.node mid at next part c.in_ok-next.ensures (sym c.in-Some.ensures) new e.ensures.later done);
      later = later_twice m old mid new inv.later e.ensures.later;
      empty = e.ensures.found.1;
    }

pub run_statements-returns-in_default-end-clause-later : goal.switches::run_statements-returns-in_default-end-clause-later
run_statements-returns-in_default-end-clause-later g t c =
    later_twice g.S.WorldStore.meaning c.args.config.now c.loop-part.config c.statement.new.config c.loop-part.invariant.later c.in-Ok.ensures.later

pub run_statements-returns-in_default-end-clause-found : goal.switches::run_statements-returns-in_default-end-clause-found
run_statements-returns-in_default-end-clause-found g t c =
    (subst (λ (e : Completion). HasCompletion c.statement.new.config e) (sym c.ended.ensures) (end_there c.statement.new.config c.in-Ok.end c.in-Ok.ensures.found.0), c.in-Ok.ensures.found.1)

pub run_statements-returns-in_default-end-clause-does : goal.switches::run_statements-returns-in_default-end-clause-does
run_statements-returns-in_default-end-clause-does g t c =
    let m = g.S.WorldStore.meaning in
    let old = c.args.config.now in
    let mid = c.loop-part.config in
    let new = c.statement.new.config in
    let f = c.args.frame.now in
    let k = c.statement.new.stops in
    let at = c.loop-part.at in
    let next = c.in_ok-next.next in
    let part = c.in-Some.part in
    let end = c.in-Ok.end in
    left_does m (line_here m old f (statements_left old f c.args.node c.args.from)) (line_here m mid f (statements_left mid f c.args.node at)) old mid new (Ok c.ended.result) k.waits k.top c.loop-part.invariant.left
    (part_form m f c.args.node mid at next part c.in_ok-next.ensures (sym c.in-Some.ensures) new (Ok c.ended.result) k.waits k.top
    (form_ends m completion_in completion_in mid new f (AtStmt part.0) (statement_then mid f c.args.node next) end c.ended.result k.waits k.top k.waits k.top c.in-Ok.ensures.later c.in-Ok.ensures.does
    (λ t env. end_is t end (statements_left mid f c.args.node next t env) c.in_default-end.not-Normal ∙ ap (λ (e : Completion). Ret (completion_in t e)) (sym c.ended.ensures))))

pub run_statements-returns-in-Err-clause-later : goal.switches::run_statements-returns-in-Err-clause-later
run_statements-returns-in-Err-clause-later g t c =
    let m = g.S.WorldStore.meaning in
    let mid = c.loop-part.config in
    let s = c.statement.new.stops in
    let k = c.waits_holding.new.stops in
    later_then m {A = Completion} c.args.config.now mid c.waits_holding.new.config (Err c.waits_holding.result) c.loop-part.invariant.later
    (broke_later m Completion Completion mid c.statement.new.config c.waits_holding.new.config c.args.frame.now c.args.node (holds.Value c.args.sought ∷ []) (points.Stmt (stmt.ClauseStatement c.in_ok-next.next)) c.in-Err.end s.waits s.top c.waits_holding.result k.waits k.top
    c.waits_holding.ensures.same c.waits_holding.ensures.waits c.in-Err.ensures.later)

pub run_statements-returns-in-Err-clause-found : goal.switches::run_statements-returns-in-Err-clause-found
run_statements-returns-in-Err-clause-found g t c =
    let m = g.S.WorldStore.meaning in
    let mid = c.loop-part.config in
    let f = c.args.frame.now in
    let l = c.loop-part.invariant.later in
    let s = c.statement.new.stops in
    let k = c.waits_holding.new.stops in
    broke_found m Completion Completion mid c.statement.new.config c.waits_holding.new.config f c.args.node (holds.Value c.args.sought ∷ []) (points.Stmt (stmt.ClauseStatement c.in_ok-next.next)) c.in-Err.end s.waits s.top c.waits_holding.result k.waits k.top
    c.waits_holding.ensures.same c.waits_holding.ensures.waits c.in-Err.ensures.later (l.frames f c.requires.there) (stands_later m c.args.config.now f mid c.args.node l c.requires.node) (l.values c.args.sought c.requires.sought, tt) tt c.in-Err.ensures.found

pub run_statements-returns-in-Err-clause-does : goal.switches::run_statements-returns-in-Err-clause-does
run_statements-returns-in-Err-clause-does g t c =
    let m = g.S.WorldStore.meaning in
    let old = c.args.config.now in
    let mid = c.loop-part.config in
    let new = c.statement.new.config in
    let last = c.waits_holding.new.config in
    let f = c.args.frame.now in
    let v = c.args.sought in
    let s = c.statement.new.stops in
    let k = c.waits_holding.new.stops in
    let at = c.loop-part.at in
    let next = c.in_ok-next.next in
    let part = c.in-Some.part in
    let end = c.waits_holding.result in
    left_does m (line_here m old f (statements_left old f c.args.node c.args.from)) (line_here m mid f (statements_left mid f c.args.node at)) old mid last (Err end) k.waits k.top c.loop-part.invariant.left
    (part_form m f c.args.node mid at next part c.in_ok-next.ensures (sym c.in-Some.ensures) last (Err end) k.waits k.top
    (broke_does m Completion Completion mid new last f c.args.node (holds.Value v ∷ []) (points.Stmt (stmt.ClauseStatement next)) c.in-Err.end s.waits s.top end k.waits k.top c.waits_holding.ensures.same c.waits_holding.ensures.waits
    completion_in completion_in (AtStmt part.0) (statement_then mid f c.args.node next) (part_waits m f c.args.node mid new v next) (λ t env e. refl) c.in-Err.ensures.later c.in-Err.ensures.does))

pub run_statements-returns-clause-does : goal.switches::run_statements-returns-clause-does
run_statements-returns-clause-does g t c =
    let m = g.S.WorldStore.meaning in
    let old = c.args.config.now in
    let mid = c.loop-part.config in
    let f = c.args.frame.now in
    let s = c.loop-part.stops in
    let at = c.loop-part.at in
    left_does m (line_here m old f (statements_left old f c.args.node c.args.from)) (line_here m mid f (statements_left mid f c.args.node at)) old mid mid (Ok completions.Normal) s.waits s.top c.loop-part.invariant.left
    (parts_end m f c.args.node mid at s.waits s.top (sym c.in_default.ensures))
