-- What holds of the functions of `tries`.
use Rattle.std.proofs.Common.{◌≡◌, rules, [], ◌∷◌, Option, Some, refl, ap, ◌∙◌, subst, sym}
use Rattle.std.specs.Prelude.{Ok, Err, IfSome, Result}
use Rattle.wjs_base.specs.Text.{Has}
use Rattle.wjs_base.specs.declared.ids.NodeId.{NodeId}
use Rattle.wjs_by_content.specs.Tables.{value_in, text_in}
use Rattle.wjs_meaning.specs.Deeds.{AtExpr, AtStmt, then_value, Ret}
use Rattle.wjs_meaning.specs.Reading.{number}
use Rattle.wjs_meaning.specs.Statements as statements
use Rattle.wjs_model.specs.declared.frame.Completion.{Completion}
use Rattle.wjs_model.specs.Contents.{completion_in}
use Rattle.wjs_model.specs.Soundness.{Base, HasCompletion, HasObject, HasValue, IsThere, StandsHere, StandsIf}
use Rattle.wjs_model.specs.Standing.{Stands}
use Rattle.wjs_model.specs.declared.config.Config.{Config}
use Rattle.wjs_model.specs.declared.frame.Held.TheVariants as holds
use Rattle.wjs_model.specs.declared.frame.Completion.TheVariants as completions
use Rattle.wjs_model.specs.declared.point.Point.TheVariants as points
use Rattle.wjs_model.specs.declared.point.StmtPoint.TheVariants as stmt
use Rattle.wjs_frames.specs.Parts.{env_in, node_among}
use Rattle.wjs_frames.proofs.Parting.{stands_if_later, stands_later}
use Rattle.wjs_frames.specs.Following.{Later}
use Rattle.wjs_heap_steps.proofs.Later.{later_twice}
use Rattle.wjs_effects.proofs.Leaving.{shorten_as}
use Rattle.wjs_stopping.specs.Evaluating.{Evaluates, HasOutcome, InMemory}
use Rattle.wjs_stopping.specs.Waiting.{at_node}
use Rattle.wjs_direct_lines.specs.Deeds.{goal_here, line_here}
use Rattle.wjs_direct_lines.proofs.Forming.{line_ended, node_there}
use Rattle.wjs_direct_lines.proofs.Parts.{broke_does, broke_found, broke_later, form_ends, later_then, line_as, line_form}
use Rattle.wjs_direct_lines.proofs.Nesting.{if_here}
use Rattle.wjs_tree.specs.declared.node.Handler.{Handler}
use Rattle.wjs_stopping.specs.declared.ends.Broken.{Broken}
use Rattle.wjs_blocks.specs.Tries.{catch_in}
use Rattle.wjs_blocks.proofs.Catching.{caught_stands_later}
use Rattle.wjs_direct.specs.Tries.{IsCaught, caught_here}
use Rattle.wjs_direct.proofs.Trying.{catch_does, caught_moved, caught_then, ended_caught, ended_does, ended_found, ended_memory, ended_then, goes_past, goes_to, handled_does, inner_does, inner_stands, inner_there, last_is, last_there, passes_by, stood_does, thrown_is, thrown_there}
use Rattle.wjs_direct.proofs.+direct.Goals as goal

pub throw_of-returns-in-Ok-clause-does : goal.tries::throw_of-returns-in-Ok-clause-does
throw_of-returns-in-Ok-clause-does g t c =
    let s = c.effect.new.stops in
    form_ends g.S.WorldStore.meaning completion_in completion_in c.args.config.now c.effect.new.config c.args.frame.now (AtExpr c.args.e.0) (λ t env. then_value statements.throw_value) c.in-Ok.end c.thrown.result s.waits s.top s.waits s.top
    c.in-Ok.ensures.later c.in-Ok.ensures.does (λ t env. thrown_is t c.in-Ok.end ∙ ap (λ (e : Completion). Ret (completion_in t e)) (sym c.thrown.ensures))

pub throw_of-returns-in-Ok-clause-found : goal.tries::throw_of-returns-in-Ok-clause-found
throw_of-returns-in-Ok-clause-found g t c =
    (subst (λ (e : Completion). HasCompletion c.effect.new.config e) (sym c.thrown.ensures) (thrown_there c.effect.new.config c.in-Ok.end c.in-Ok.ensures.found.0), c.in-Ok.ensures.found.1)

pub throw_of-returns-in-Err-clause-later : goal.tries::throw_of-returns-in-Err-clause-later
throw_of-returns-in-Err-clause-later g t c =
    let m = g.S.WorldStore.meaning in
    let s = c.effect.new.stops in
    let k = c.waits.new.stops in
    broke_later m Completion Completion c.args.config.now c.effect.new.config c.waits.new.config c.args.frame.now c.args.node [] (points.Stmt stmt.ThrowValue) c.in-Err.end s.waits s.top c.waits.result k.waits k.top
    c.waits.ensures.same c.waits.ensures.waits c.in-Err.ensures.later

pub throw_of-returns-in-Err-clause-found : goal.tries::throw_of-returns-in-Err-clause-found
throw_of-returns-in-Err-clause-found g t c =
    let m = g.S.WorldStore.meaning in
    let s = c.effect.new.stops in
    let k = c.waits.new.stops in
    broke_found m Completion Completion c.args.config.now c.effect.new.config c.waits.new.config c.args.frame.now c.args.node [] (points.Stmt stmt.ThrowValue) c.in-Err.end s.waits s.top c.waits.result k.waits k.top
    c.waits.ensures.same c.waits.ensures.waits c.in-Err.ensures.later c.requires.there c.requires.node tt tt c.in-Err.ensures.found

pub throw_of-returns-in-Err-clause-does : goal.tries::throw_of-returns-in-Err-clause-does
throw_of-returns-in-Err-clause-does g t c =
    let m = g.S.WorldStore.meaning in
    let s = c.effect.new.stops in
    let k = c.waits.new.stops in
    broke_does m Completion Completion c.args.config.now c.effect.new.config c.waits.new.config c.args.frame.now c.args.node [] (points.Stmt stmt.ThrowValue) c.in-Err.end s.waits s.top c.waits.result k.waits k.top
    c.waits.ensures.same c.waits.ensures.waits completion_in completion_in (AtExpr c.args.e.0) (λ t env. then_value statements.throw_value) (λ l t env. refl) (λ t env e. refl) c.in-Err.ensures.later c.in-Err.ensures.does

pub attempt-caught-requires : goal.tries::attempt-caught-requires
attempt-caught-requires g t c =
    let m = g.S.WorldStore.meaning in
    let old = c.args.config.now in
    let f = c.args.frame.now in
    let mid = c.attempted.new.config in
    let l = c.in-Ok.ensures.later in
    let base : Base m mid = l.base in
    let there : IsThere m mid f = l.frames f c.requires.there in
    let node : StandsHere mid f c.args.node = stands_later m old f mid c.args.node l c.requires.node in
    let empty : c.attempted.new.stops.waits ≡ [] = c.in-Ok.ensures.found.1 in
    let last : StandsIf mid f c.args.last = stands_if_later m old f mid c.args.last l c.requires.last in
    let error : HasValue mid c.in-Throws.error = subst (λ (e : Completion). HasCompletion mid e) c.in-Throws.is c.in-Ok.ensures.found.0 in
    search (rules, base, there, node, empty, last, error)

pub attempt-lastly-requires : goal.tries::attempt-lastly-requires
attempt-lastly-requires g t c =
    let m = g.S.WorldStore.meaning in
    let old = c.args.config.now in
    let f = c.args.frame.now in
    let mid = c.attempted.new.config in
    let l = c.in-Ok.ensures.later in
    let base : Base m mid = l.base in
    let there : IsThere m mid f = l.frames f c.requires.there in
    let node : StandsHere mid f c.args.node = stands_later m old f mid c.args.node l c.requires.node in
    let empty : c.attempted.new.stops.waits ≡ [] = c.in-Ok.ensures.found.1 in
    let last : StandsIf mid f c.args.last = stands_if_later m old f mid c.args.last l c.requires.last in
    let end : HasCompletion mid c.in-Ok.end = c.in-Ok.ensures.found.0 in
    search (rules, base, there, node, empty, last, end)

pub attempt-returns-in-Throws-clause-later : goal.tries::attempt-returns-in-Throws-clause-later
attempt-returns-in-Throws-clause-later g t c =
    later_then g.S.WorldStore.meaning c.args.config.now c.attempted.new.config c.caught.new.config c.caught.result c.in-Ok.ensures.later c.caught.ensures.later

pub attempt-returns-in-Throws-clause-does : goal.tries::attempt-returns-in-Throws-clause-does
attempt-returns-in-Throws-clause-does g t c =
    let m = g.S.WorldStore.meaning in
    let old = c.args.config.now in
    let f = c.args.frame.now in
    let mid = c.attempted.new.config in
    let new = c.caught.new.config in
    let k = c.caught.new.stops in
    ended_then m old mid new f (goal_here m old f (AtStmt c.args.block.0)) (caught_here old f c.args.node c.args.last) c.args.node [] (points.Stmt (stmt.TryBlock c.args.last)) c.in-Ok.end c.caught.result k.waits k.top
    c.in-Ok.ensures.later c.in-Ok.ensures.does (caught_moved m old mid new f c.args.node c.args.last c.in-Ok.end c.caught.result k.waits k.top c.in-Ok.ensures.later
    (subst (λ (e : Completion). Evaluates m (line_here m mid f (λ t env. caught_here mid f c.args.node c.args.last t env (completion_in t e))) completion_in c.caught.result k.waits k.top mid new) (sym c.in-Throws.is) c.caught.ensures.does))

pub attempt-returns-in_default-clause-later : goal.tries::attempt-returns-in_default-clause-later
attempt-returns-in_default-clause-later g t c =
    later_then g.S.WorldStore.meaning c.args.config.now c.attempted.new.config c.lastly.new.config c.lastly.result c.in-Ok.ensures.later c.lastly.ensures.later

pub attempt-returns-in_default-clause-does : goal.tries::attempt-returns-in_default-clause-does
attempt-returns-in_default-clause-does g t c =
    let m = g.S.WorldStore.meaning in
    let old = c.args.config.now in
    let f = c.args.frame.now in
    let mid = c.attempted.new.config in
    let new = c.lastly.new.config in
    let k = c.lastly.new.stops in
    ended_then m old mid new f (goal_here m old f (AtStmt c.args.block.0)) (caught_here old f c.args.node c.args.last) c.args.node [] (points.Stmt (stmt.TryBlock c.args.last)) c.in-Ok.end c.lastly.result k.waits k.top
    c.in-Ok.ensures.later c.in-Ok.ensures.does (caught_moved m old mid new f c.args.node c.args.last c.in-Ok.end c.lastly.result k.waits k.top c.in-Ok.ensures.later
    (line_as m completion_in mid new f (λ t env. caught_here mid f c.args.node c.args.last t env (completion_in t c.in-Ok.end)) c.lastly.result k.waits k.top (λ t env. statements.try_finally (number c.args.last) env (completion_in t c.in-Ok.end))
    (λ t more. passes_by _ (number c.args.last) (env_in m mid t f) t c.in-Ok.end c.in_default.not-Throws) c.lastly.ensures.does))

pub attempt-returns-in-Err-clause-later : goal.tries::attempt-returns-in-Err-clause-later
attempt-returns-in-Err-clause-later g t c =
    let m = g.S.WorldStore.meaning in
    let s = c.attempted.new.stops in
    let k = c.waits.new.stops in
    broke_later m Completion Completion c.args.config.now c.attempted.new.config c.waits.new.config c.args.frame.now c.args.node [] (points.Stmt (stmt.TryBlock c.args.last)) c.in-Err.end s.waits s.top c.waits.result k.waits k.top
    c.waits.ensures.same c.waits.ensures.waits c.in-Err.ensures.later

pub attempt-returns-in-Err-clause-found : goal.tries::attempt-returns-in-Err-clause-found
attempt-returns-in-Err-clause-found g t c =
    let m = g.S.WorldStore.meaning in
    let s = c.attempted.new.stops in
    let k = c.waits.new.stops in
    broke_found m Completion Completion c.args.config.now c.attempted.new.config c.waits.new.config c.args.frame.now c.args.node [] (points.Stmt (stmt.TryBlock c.args.last)) c.in-Err.end s.waits s.top c.waits.result k.waits k.top
    c.waits.ensures.same c.waits.ensures.waits c.in-Err.ensures.later c.requires.there c.requires.node tt (if_here m c.args.config.now c.args.frame.now c.args.node c.args.last c.requires.last) c.in-Err.ensures.found

pub attempt-returns-in-Err-clause-does : goal.tries::attempt-returns-in-Err-clause-does
attempt-returns-in-Err-clause-does g t c =
    let m = g.S.WorldStore.meaning in
    let old = c.args.config.now in
    let f = c.args.frame.now in
    let mid = c.attempted.new.config in
    let s = c.attempted.new.stops in
    let k = c.waits.new.stops in
    stood_does m old mid c.waits.new.config f (goal_here m old f (AtStmt c.args.block.0)) (caught_here old f c.args.node c.args.last) c.args.node [] (points.Stmt (stmt.TryBlock c.args.last)) c.in-Err.end s.waits s.top c.waits.result k.waits k.top
    c.waits.ensures.same c.in-Err.ensures.caught (caught_then m old mid f c.args.node c.args.last) c.in-Err.ensures.later c.in-Err.ensures.does c.waits.ensures.waits

-- what is thrown is an end like every other

pub attempted-returns-clause-later : goal.tries::attempted-returns-clause-later
attempted-returns-clause-later g t c =
    let m = g.S.WorldStore.meaning in
    subst (λ (r : Result Completion Broken). InMemory r (Later m c.args.config.now c.statement.new.config)) (sym c.ended.ensures) (ended_memory (Later m c.args.config.now c.statement.new.config) c.statement.result c.statement.ensures.later)

pub attempted-returns-clause-found : goal.tries::attempted-returns-clause-found
attempted-returns-clause-found g t c =
    let m = g.S.WorldStore.meaning in
    let s = c.statement.new.stops in
    subst (λ (r : Result Completion Broken). HasOutcome m HasCompletion c.statement.new.config r s.waits s.top) (sym c.ended.ensures) (ended_found m c.statement.new.config c.statement.result s.waits s.top c.statement.ensures.found)

pub attempted-returns-clause-does : goal.tries::attempted-returns-clause-does
attempted-returns-clause-does g t c =
    let m = g.S.WorldStore.meaning in
    let old = c.args.config.now in
    let new = c.statement.new.config in
    let s = c.statement.new.stops in
    let deeds = goal_here m old c.args.frame.now (AtStmt c.args.node.0) in
    subst (λ (r : Result Completion Broken). Evaluates m deeds completion_in r s.waits s.top old new) (sym c.ended.ensures) (ended_does m deeds c.statement.result s.waits s.top old new c.statement.ensures.does)

pub attempted-returns-clause-caught : goal.tries::attempted-returns-clause-caught
attempted-returns-clause-caught g t c = subst (λ (r : Result Completion Broken). IsCaught r) (sym c.ended.ensures) (ended_caught c.statement.result)

-- what was thrown

pub caught-catch-requires : goal.tries::caught-catch-requires
caught-catch-requires g t c =
    let old = c.args.config.now in
    let n = node_among old.units.items c.args.frame.now.tree c.args.node in
    let is : catch_in n ≡ Some c.in-Some.handler = sym c.handler_at.ensures.is ∙ c.in-Some.is in
    let name : Has old.heap.texts c.in-Some.handler.name = subst (λ (o : Option Handler). IfSome o (λ (h : Handler). Has old.heap.texts h.name)) c.in-Some.is c.handler_at.ensures.known in
    search (rules, is, name)

pub caught-returns-in-Some-clause-does : goal.tries::caught-returns-in-Some-clause-does
caught-returns-in-Some-clause-does g t c =
    let m = g.S.WorldStore.meaning in
    let old = c.args.config.now in
    let f = c.args.frame.now in
    let h = c.in-Some.handler in
    let k = c.catch.new.stops in
    line_as m completion_in old c.catch.new.config f (λ t env. caught_here old f c.args.node c.args.last t env (completion_in t (completions.Throws c.args.error))) c.catch.result k.waits k.top
    (λ t env. statements.try_catch (text_in t h.name) h.block.0 (number c.args.last) env (value_in t c.args.error))
    (λ t more. goes_to m old f c.args.node c.args.last t (env_in m old t f) h c.args.error (sym c.handler_at.ensures.is ∙ c.in-Some.is)) c.catch.ensures.does

pub caught-returns-in-None-clause-does : goal.tries::caught-returns-in-None-clause-does
caught-returns-in-None-clause-does g t c =
    let m = g.S.WorldStore.meaning in
    let old = c.args.config.now in
    let f = c.args.frame.now in
    let end = completions.Throws c.args.error in
    let k = c.lastly.new.stops in
    line_as m completion_in old c.lastly.new.config f (λ t env. caught_here old f c.args.node c.args.last t env (completion_in t end)) c.lastly.result k.waits k.top
    (λ t env. statements.try_finally (number c.args.last) env (completion_in t end))
    (λ t more. goes_past m old f c.args.node c.args.last t (env_in m old t f) end (sym c.handler_at.ensures.is ∙ c.in-None.is)) c.lastly.ensures.does

-- its scope

pub catch-write-requires : goal.tries::catch-write-requires
catch-write-requires g t c =
    let there = c.in_ok-scope.ensures.later.frames c.args.frame.now c.requires.there in
    search (rules, there)

pub catch-in_scope-requires : goal.tries::catch-in_scope-requires
catch-in_scope-requires g t c =
    let m = g.S.WorldStore.meaning in
    let old = c.args.config.now in
    let mid = c.create_scope.new.config in
    let late = c.write.new.config in
    let f = c.args.frame.now in
    let l = c.in_ok-scope.ensures.later in
    let w = c.in_ok-write.ensures.later in
    let all = later_twice m old mid late l w in
    let base : Base m late = w.base in
    let there : IsThere m late f = all.frames f c.requires.there in
    let empty : c.args.stops.now.waits ≡ [] = c.requires.empty in
    let scope : HasObject late c.in_ok-scope.scope = w.objects c.in_ok-scope.scope c.in_ok-scope.ensures.found in
    let node : Stands late.units.items late.heap.arena f.tree c.args.handler.block c.in_ok-scope.scope 0 = caught_stands_later m old mid late (at_node f c.args.node []) c.args.handler c.in_ok-scope.scope (node_there m old f c.args.node [] c.requires.there c.requires.node tt) c.requires.is l (c.in_ok-scope.ensures.outer ∙ ap Some c.scope.ensures) w in
    search (rules, base, there, node, empty, scope)

-- its block

pub catch-lastly-requires : goal.tries::catch-lastly-requires
catch-lastly-requires g t c =
    let m = g.S.WorldStore.meaning in
    let old = c.args.config.now in
    let f = c.args.frame.now in
    let late = c.write.new.config in
    let ran = c.in_scope.new.config in
    let l = later_twice m old late ran (later_twice m old c.create_scope.new.config late c.in_ok-scope.ensures.later c.in_ok-write.ensures.later) c.in-Ok.ensures.later in
    let base : Base m ran = l.base in
    let there : IsThere m ran f = l.frames f c.requires.there in
    let node : StandsHere ran f c.args.node = stands_later m old f ran c.args.node l c.requires.node in
    let empty : c.in_scope.new.stops.waits ≡ [] = c.in-Ok.ensures.found.1 in
    let last : StandsIf ran f c.args.last = stands_if_later m old f ran c.args.last l c.requires.last in
    let end : HasCompletion ran c.in-Ok.end = c.in-Ok.ensures.found.0 in
    search (rules, base, there, node, empty, last, end)

pub catch-returns-in-Ok-clause-later : goal.tries::catch-returns-in-Ok-clause-later
catch-returns-in-Ok-clause-later g t c =
    let m = g.S.WorldStore.meaning in
    let old = c.args.config.now in
    let late = c.write.new.config in
    let ran = c.in_scope.new.config in
    later_then m old ran c.lastly.new.config c.lastly.result (later_twice m old late ran (later_twice m old c.create_scope.new.config late c.in_ok-scope.ensures.later c.in_ok-write.ensures.later) c.in-Ok.ensures.later) c.lastly.ensures.later

pub catch-returns-in-Ok-clause-does : goal.tries::catch-returns-in-Ok-clause-does
catch-returns-in-Ok-clause-does g t c =
    let m = g.S.WorldStore.meaning in
    let f = c.args.frame.now in
    let late = c.write.new.config in
    let new = c.lastly.new.config in
    let block = c.args.handler.block in
    let scope = c.in_ok-scope.scope in
    let k = c.lastly.new.stops in
    catch_does m c.args.config.now c.create_scope.new.config late new f c.args.handler c.args.last c.args.error scope c.scope.result c.name_of-name.result c.lastly.result k.waits k.top c.scope.ensures
    c.in_ok-scope.ensures.does c.in_ok-scope.ensures.later c.name_of-name.ensures.name c.in_ok-write.ensures.does c.in_ok-write.ensures.later
    (handled_does m late new f block scope c.args.last c.lastly.result k.waits k.top
    (ended_then m late c.in_scope.new.config new f (goal_here m late (record f { scope = scope }) (AtStmt block.0)) (λ t env. statements.try_finally (number c.args.last) env) c.args.node [] (points.Stmt (stmt.TryHandler c.args.last)) c.in-Ok.end c.lastly.result k.waits k.top
    c.in-Ok.ensures.later c.in-Ok.ensures.does c.lastly.ensures.does))

pub catch-returns-in-Err-clause-later : goal.tries::catch-returns-in-Err-clause-later
catch-returns-in-Err-clause-later g t c =
    let m = g.S.WorldStore.meaning in
    let old = c.args.config.now in
    let late = c.write.new.config in
    let new = c.waits.new.config in
    let s = c.in_scope.new.stops in
    let k = c.waits.new.stops in
    later_then m {A = Completion} old late new (Err c.waits.result) (later_twice m old c.create_scope.new.config late c.in_ok-scope.ensures.later c.in_ok-write.ensures.later)
    (broke_later m Completion Completion late c.in_scope.new.config new c.args.frame.now c.args.node [] (points.Stmt (stmt.TryHandler c.args.last)) c.in-Err.end s.waits s.top c.waits.result k.waits k.top
    c.waits.ensures.same c.waits.ensures.waits c.in-Err.ensures.later)

pub catch-returns-in-Err-clause-found : goal.tries::catch-returns-in-Err-clause-found
catch-returns-in-Err-clause-found g t c =
    let m = g.S.WorldStore.meaning in
    let old = c.args.config.now in
    let f = c.args.frame.now in
    let late = c.write.new.config in
    let s = c.in_scope.new.stops in
    let k = c.waits.new.stops in
    let all = later_twice m old c.create_scope.new.config late c.in_ok-scope.ensures.later c.in_ok-write.ensures.later in
    broke_found m Completion Completion late c.in_scope.new.config c.waits.new.config f c.args.node [] (points.Stmt (stmt.TryHandler c.args.last)) c.in-Err.end s.waits s.top c.waits.result k.waits k.top
    c.waits.ensures.same c.waits.ensures.waits c.in-Err.ensures.later (all.frames f c.requires.there) (stands_later m old f late c.args.node all c.requires.node) tt
    (if_here m late f c.args.node c.args.last (stands_if_later m old f late c.args.last all c.requires.last)) c.in-Err.ensures.found

pub catch-returns-in-Err-clause-does : goal.tries::catch-returns-in-Err-clause-does
catch-returns-in-Err-clause-does g t c =
    let m = g.S.WorldStore.meaning in
    let f = c.args.frame.now in
    let late = c.write.new.config in
    let new = c.waits.new.config in
    let block = c.args.handler.block in
    let scope = c.in_ok-scope.scope in
    let s = c.in_scope.new.stops in
    let k = c.waits.new.stops in
    catch_does m c.args.config.now c.create_scope.new.config late new f c.args.handler c.args.last c.args.error scope c.scope.result c.name_of-name.result (Err c.waits.result) k.waits k.top c.scope.ensures
    c.in_ok-scope.ensures.does c.in_ok-scope.ensures.later c.name_of-name.ensures.name c.in_ok-write.ensures.does c.in_ok-write.ensures.later
    (handled_does m late new f block scope c.args.last (Err c.waits.result) k.waits k.top
    (stood_does m late c.in_scope.new.config new f (goal_here m late (record f { scope = scope }) (AtStmt block.0)) (λ t env. statements.try_finally (number c.args.last) env) c.args.node [] (points.Stmt (stmt.TryHandler c.args.last)) c.in-Err.end s.waits s.top c.waits.result k.waits k.top
    c.waits.ensures.same c.in-Err.ensures.caught (λ l t env. refl) c.in-Err.ensures.later c.in-Err.ensures.does c.waits.ensures.waits))

-- in a frame of its own

pub in_scope-attempted-done-requires : goal.tries::in_scope-attempted-done-requires
in_scope-attempted-done-requires g t c =
    let m = g.S.WorldStore.meaning in
    let old = c.args.config.now in
    let f = c.args.frame.now in
    let first : Config g.row.S.Denot = record old { frames = c.begun.new.self } in
    let begun : first ≡ old = λ i. record old { frames = c.in_ok-inner.ensures.same i } in
    let base : Base m first = subst (Base m) (sym begun) c.requires.base in
    let there : IsThere m first c.set_scope.new.self = inner_there m old first f c.in_ok-inner.inner c.set_scope.new.self c.args.node c.args.scope begun c.in_ok-inner.ensures.frame c.set_scope.ensures c.requires.there c.requires.scope c.requires.node in
    let node : StandsHere first c.set_scope.new.self c.args.node = inner_stands m old first f c.in_ok-inner.inner c.set_scope.new.self c.args.node c.args.scope begun c.in_ok-inner.ensures.frame c.set_scope.ensures c.requires.node in
    let empty : c.args.stops.now.waits ≡ [] = c.requires.empty in
    search (rules, base, there, node, empty)

pub in_scope-returns-clause-later : goal.tries::in_scope-returns-clause-later
in_scope-returns-clause-later g t c =
    let m = g.S.WorldStore.meaning in
    let old = c.args.config.now in
    let f = c.args.frame.now in
    let first : Config g.row.S.Denot = record old { frames = c.begun.new.self } in
    let begun : first ≡ old = λ i. record old { frames = c.in_ok-inner.ensures.same i } in
    let ran = c.attempted-done.new.config in
    let same : record ran { frames = c.spare.new.self } ≡ ran = λ i. record ran { frames = c.spare.ensures i } in
    let done = c.attempted-done.result in
    subst (λ (x : Config g.row.S.Denot). InMemory done (Later m old x)) (sym same)
    (subst (λ (x : Config g.row.S.Denot). InMemory done (Later m x ran)) begun c.attempted-done.ensures.later)

pub in_scope-returns-clause-found : goal.tries::in_scope-returns-clause-found
in_scope-returns-clause-found g t c =
    let ran = c.attempted-done.new.config in
    let same : record ran { frames = c.spare.new.self } ≡ ran = λ i. record ran { frames = c.spare.ensures i } in
    let done = c.attempted-done.result in
    let k = c.attempted-done.new.stops in
    subst (λ (x : Config g.row.S.Denot). HasOutcome g.S.WorldStore.meaning HasCompletion x done k.waits k.top) (sym same) c.attempted-done.ensures.found

pub in_scope-returns-clause-does : goal.tries::in_scope-returns-clause-does
in_scope-returns-clause-does g t c =
    let m = g.S.WorldStore.meaning in
    let old = c.args.config.now in
    let f = c.args.frame.now in
    let first : Config g.row.S.Denot = record old { frames = c.begun.new.self } in
    let begun : first ≡ old = λ i. record old { frames = c.in_ok-inner.ensures.same i } in
    let ran = c.attempted-done.new.config in
    let same : record ran { frames = c.spare.new.self } ≡ ran = λ i. record ran { frames = c.spare.ensures i } in
    let done = c.attempted-done.result in
    let k = c.attempted-done.new.stops in
    inner_does m old first f c.in_ok-inner.inner c.set_scope.new.self c.args.node c.args.scope begun c.in_ok-inner.ensures.frame c.set_scope.ensures ran (record ran { frames = c.spare.new.self }) done k.waits k.top same c.attempted-done.ensures.does

-- `finally`

pub lastly-statement-requires : goal.tries::lastly-statement-requires
lastly-statement-requires g t c =
    let part : StandsHere c.args.config.now c.args.frame.now c.in-Some.s = subst (λ (o : Option NodeId). StandsIf c.args.config.now c.args.frame.now o) c.in-Some.is c.requires.last in
    search (rules, part)

pub lastly-returns-in-Ok-clause-does : goal.tries::lastly-returns-in-Ok-clause-does
lastly-returns-in-Ok-clause-does g t c =
    let m = g.S.WorldStore.meaning in
    let old = c.args.config.now in
    let f = c.args.frame.now in
    let new = c.statement.new.config in
    let end = c.args.end in
    let s = c.statement.new.stops in
    line_form m completion_in old new f (λ t env. statements.try_finally (number c.args.last) env (completion_in t end)) (Ok c.last_end.result) s.waits s.top (AtStmt c.in-Some.s.0) (λ t env. statements.finally_done (completion_in t end))
    (λ t more. ap (λ (o : Option NodeId). statements.try_finally (number o) (env_in m old t f) (completion_in t end)) c.in-Some.is)
    (form_ends m completion_in completion_in old new f (AtStmt c.in-Some.s.0) (λ t env. statements.finally_done (completion_in t end)) c.in-Ok.after c.last_end.result s.waits s.top s.waits s.top
    c.in-Ok.ensures.later c.in-Ok.ensures.does (λ t env. last_is t end c.in-Ok.after ∙ ap (λ (e : Completion). Ret (completion_in t e)) (sym c.last_end.ensures)))

pub lastly-returns-in-Ok-clause-found : goal.tries::lastly-returns-in-Ok-clause-found
lastly-returns-in-Ok-clause-found g t c =
    let new = c.statement.new.config in (
      subst (λ (e : Completion). HasCompletion new e) (sym c.last_end.ensures)
          (last_there new c.args.end c.in-Ok.after (c.in-Ok.ensures.later.completions c.args.end c.requires.end) c.in-Ok.ensures.found.0),
      c.in-Ok.ensures.found.1,
    )

pub lastly-returns-in-Err-clause-later : goal.tries::lastly-returns-in-Err-clause-later
lastly-returns-in-Err-clause-later g t c =
    let m = g.S.WorldStore.meaning in
    let s = c.statement.new.stops in
    let k = c.waits_holding.new.stops in
    broke_later m Completion Completion c.args.config.now c.statement.new.config c.waits_holding.new.config c.args.frame.now c.args.node (holds.Earlier c.args.end ∷ []) (points.Stmt stmt.TryFinally) c.in-Err.broken s.waits s.top c.waits_holding.result k.waits k.top
    c.waits_holding.ensures.same c.waits_holding.ensures.waits c.in-Err.ensures.later

pub lastly-returns-in-Err-clause-found : goal.tries::lastly-returns-in-Err-clause-found
lastly-returns-in-Err-clause-found g t c =
    let m = g.S.WorldStore.meaning in
    let s = c.statement.new.stops in
    let k = c.waits_holding.new.stops in
    broke_found m Completion Completion c.args.config.now c.statement.new.config c.waits_holding.new.config c.args.frame.now c.args.node (holds.Earlier c.args.end ∷ []) (points.Stmt stmt.TryFinally) c.in-Err.broken s.waits s.top c.waits_holding.result k.waits k.top
    c.waits_holding.ensures.same c.waits_holding.ensures.waits c.in-Err.ensures.later c.requires.there c.requires.node (c.requires.end, tt) tt c.in-Err.ensures.found

pub lastly-returns-in-Err-clause-does : goal.tries::lastly-returns-in-Err-clause-does
lastly-returns-in-Err-clause-does g t c =
    let m = g.S.WorldStore.meaning in
    let old = c.args.config.now in
    let f = c.args.frame.now in
    let new = c.waits_holding.new.config in
    let end = c.args.end in
    let s = c.statement.new.stops in
    let k = c.waits_holding.new.stops in
    line_form m completion_in old new f (λ t env. statements.try_finally (number c.args.last) env (completion_in t end)) (Err c.waits_holding.result) k.waits k.top (AtStmt c.in-Some.s.0) (λ t env. statements.finally_done (completion_in t end))
    (λ t more. ap (λ (o : Option NodeId). statements.try_finally (number o) (env_in m old t f) (completion_in t end)) c.in-Some.is)
    (broke_does m Completion Completion old c.statement.new.config new f c.args.node (holds.Earlier end ∷ []) (points.Stmt stmt.TryFinally) c.in-Err.broken s.waits s.top c.waits_holding.result k.waits k.top
    c.waits_holding.ensures.same c.waits_holding.ensures.waits completion_in completion_in (AtStmt c.in-Some.s.0) (λ t env. statements.finally_done (completion_in t end)) (λ l t env. refl) (λ t env e. refl) c.in-Err.ensures.later c.in-Err.ensures.does)

pub lastly-returns-in-None-clause-does : goal.tries::lastly-returns-in-None-clause-does
lastly-returns-in-None-clause-does g t c =
    let s = c.args.stops.now in
    line_ended g.S.WorldStore.meaning completion_in c.args.config.now c.args.frame.now (λ t env. statements.try_finally (number c.args.last) env (completion_in t c.args.end)) c.args.end s.waits s.top
    (λ t more env. shorten_as _ _ (ap (λ (o : Option NodeId). statements.try_finally (number o) env (completion_in t c.args.end)) c.in-None.is))
