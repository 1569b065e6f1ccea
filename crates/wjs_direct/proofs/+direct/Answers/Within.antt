-- What holds of the functions of `within`.
use Rattle.std.proofs.Common.{◌≡◌, rules, [], Option, inl, inr, refl, ap, ◌∙◌, subst, sym}
use Rattle.std.specs.Prelude.{Err, IfSome}
use Rattle.wjs_base.specs.declared.values.Value.{Value}
use Rattle.wjs_by_content.specs.Tables.{value_in}
use Rattle.wjs_tree.specs.declared.node.Node.TheVariants as nodes
use Rattle.wjs_meaning.specs.Deeds.{AtExpr, then_value}
use Rattle.wjs_meaning.specs.Statements as statements
use Rattle.wjs_model.specs.declared.frame.Completion.{Completion}
use Rattle.wjs_model.specs.Contents.{completion_in}
use Rattle.wjs_model.specs.Soundness.{Base, HasCompletion, HasValue, IsThere, StandsHere, HasWorld}
use Rattle.wjs_model.specs.declared.config.Config.{Config}
use Rattle.wjs_model.specs.declared.frame.Activation.{Activation as Frame}
use Rattle.wjs_model.specs.Standing.{IsShown}
use Rattle.wjs_model.specs.declared.frame.Completion.TheVariants as completions
use Rattle.wjs_model.specs.declared.frame.Phase.TheVariants as phases
use Rattle.wjs_model.specs.declared.point.Point.TheVariants as points
use Rattle.wjs_model.specs.declared.point.StmtPoint.TheVariants as stmt
use Rattle.wjs_frames.specs.Doing.{Does}
use Rattle.wjs_frames.proofs.Parting.{stands_here, stands_later}
use Rattle.wjs_frames.specs.Following.{Later}
use Rattle.wjs_stopping.specs.Ends.{gives_in}
use Rattle.wjs_stopping.specs.Evaluating.{HasOutcome, InMemory}
use Rattle.wjs_stopping.specs.Waiting.{at_node}
use Rattle.wjs_direct_lines.proofs.Forming.{form_goes_on, node_there}
use Rattle.wjs_direct_lines.proofs.Parts.{broke_does, broke_found, broke_later, later_stopped, later_then, stop_found, given_does}
use Rattle.wjs_base.specs.declared.ids.WorldId.{WorldId}
use Rattle.wjs_heap_steps.specs.Worlds.{world_then}
use Rattle.wjs_direct.proofs.InWorlds.{block_inside, inside_there, world_opened}
use Rattle.wjs_direct.proofs.+direct.Goals as goal

pub within-value-requires : goal.within::within-value-requires
within-value-requires g t c =
    let m = g.S.WorldStore.meaning in
    let old = c.args.config.now in
    let f = c.args.frame.now in
    let e : StandsHere old f c.args.e = stands_here m old (at_node f c.args.node []) (nodes.Within c.args.e c.args.block) c.args.e (node_there m old f c.args.node [] c.requires.there c.requires.node tt) c.requires.is (inl refl) in
    search (rules, e)

pub within-opened-requires : goal.within::within-opened-requires
within-opened-requires g t c =
    let m = g.S.WorldStore.meaning in
    let old = c.args.config.now in
    let f = c.args.frame.now in
    let mid = c.value.new.config in
    let l = c.in-Ok.ensures.later in
    let base : Base m mid = l.base in
    let there : IsThere m mid f = l.frames f c.requires.there in
    let node : StandsHere mid f c.args.node = stands_later m old f mid c.args.node l c.requires.node in
    let empty : c.value.new.stops.waits ≡ [] = c.in-Ok.ensures.found.1 in
    let block : StandsHere mid f c.args.block = stands_later m old f mid c.args.block l
    (stands_here m old (at_node f c.args.node []) (nodes.Within c.args.e c.args.block) c.args.block (node_there m old f c.args.node [] c.requires.there c.requires.node tt) c.requires.is (inr (inl refl))) in
    let given : HasValue mid c.in-Ok.given = c.in-Ok.ensures.found.0 in
    search (rules, base, there, node, empty, block, given)

pub within-returns-in-Ok-clause-later : goal.within::within-returns-in-Ok-clause-later
within-returns-in-Ok-clause-later g t c =
    later_then g.S.WorldStore.meaning c.args.config.now c.value.new.config c.opened.new.config c.opened.result c.in-Ok.ensures.later c.opened.ensures.later

pub within-returns-in-Ok-clause-does : goal.within::within-returns-in-Ok-clause-does
within-returns-in-Ok-clause-does g t c =
    let s = c.value.new.stops in
    let k = c.opened.new.stops in
    form_goes_on g.S.WorldStore.meaning gives_in completion_in c.args.config.now c.value.new.config c.opened.new.config c.args.frame.now (AtExpr c.args.e.0) (λ t env. then_value (statements.within_value c.args.block.0 env)) c.in-Ok.given
    c.opened.result s.waits s.top k.waits k.top c.in-Ok.ensures.later c.in-Ok.ensures.does c.opened.ensures.does

pub within-returns-in-Err-clause-later : goal.within::within-returns-in-Err-clause-later
within-returns-in-Err-clause-later g t c =
    let m = g.S.WorldStore.meaning in
    let s = c.value.new.stops in
    let k = c.waits.new.stops in
    broke_later m Value Completion c.args.config.now c.value.new.config c.waits.new.config c.args.frame.now c.args.node [] (points.Stmt (stmt.WithinWorld c.args.block)) c.in-Err.end s.waits s.top c.waits.result k.waits k.top
    c.waits.ensures.same c.waits.ensures.waits c.in-Err.ensures.later

pub within-returns-in-Err-clause-found : goal.within::within-returns-in-Err-clause-found
within-returns-in-Err-clause-found g t c =
    let m = g.S.WorldStore.meaning in
    let old = c.args.config.now in
    let f = c.args.frame.now in
    let s = c.value.new.stops in
    let k = c.waits.new.stops in
    broke_found m Value Completion old c.value.new.config c.waits.new.config f c.args.node [] (points.Stmt (stmt.WithinWorld c.args.block)) c.in-Err.end s.waits s.top c.waits.result k.waits k.top
    c.waits.ensures.same c.waits.ensures.waits c.in-Err.ensures.later c.requires.there c.requires.node tt
    (stands_here m old (at_node f c.args.node []) (nodes.Within c.args.e c.args.block) c.args.block (node_there m old f c.args.node [] c.requires.there c.requires.node tt) c.requires.is (inr (inl refl))) c.in-Err.ensures.found

pub within-returns-in-Err-clause-does : goal.within::within-returns-in-Err-clause-does
within-returns-in-Err-clause-does g t c =
    let m = g.S.WorldStore.meaning in
    let s = c.value.new.stops in
    let k = c.waits.new.stops in
    broke_does m Value Completion c.args.config.now c.value.new.config c.waits.new.config c.args.frame.now c.args.node [] (points.Stmt (stmt.WithinWorld c.args.block)) c.in-Err.end s.waits s.top c.waits.result k.waits k.top
    c.waits.ensures.same c.waits.ensures.waits gives_in completion_in (AtExpr c.args.e.0) (λ t env. then_value (statements.within_value c.args.block.0 env)) (λ l t env. refl) (λ t env e. refl) c.in-Err.ensures.later c.in-Err.ensures.does

-- its world, and the block in it

pub opened-statement-done-requires : goal.within::opened-statement-done-requires
opened-statement-done-requires g t c =
    let m = g.S.WorldStore.meaning in
    let old = c.args.config.now in
    let f = c.args.frame.now in
    let world : HasWorld m old c.in-Some.world = subst (λ (o : Option WorldId). IfSome o (HasWorld m old)) c.in-Some.is c.in_ok-found.ensures.found in
    let shown : IsShown old.heap.arena c.in-Some.world = subst (λ (o : Option WorldId). IfSome o (IsShown old.heap.arena)) c.in-Some.is c.in_ok-found.ensures.shown in
    let first : Config g.row.S.Denot = record old { frames = c.begun.new.self } in
    let begun : first ≡ old = λ i. record old { frames = c.in_ok-inner-in-Some.ensures.same i } in
    let inner = c.set_world.new.self in
    let start : inner ≡ record (at_node f c.args.block []) { world = c.in-Some.world } = c.set_world.ensures ∙ ap (λ (q : Frame). record q { world = c.in-Some.world }) c.in_ok-inner-in-Some.ensures.frame in
    let base : Base m first = subst (Base m) (sym begun) c.requires.base in
    let there : IsThere m first inner = subst (λ (x : Config g.row.S.Denot). IsThere m x inner) (sym begun) (inside_there m old f inner c.args.block c.in-Some.world c.requires.there c.requires.block world shown start) in
    let block : StandsHere first inner c.args.block = subst (λ (q : Frame). StandsHere first q c.args.block) (sym start) c.requires.block in
    let empty : c.args.stops.now.waits ≡ [] = c.requires.empty in
    search (rules, base, there, block, empty)

pub opened-returns-in_ok-inner-in-Some-clause-later : goal.within::opened-returns-in_ok-inner-in-Some-clause-later
opened-returns-in_ok-inner-in-Some-clause-later g t c =
    let m = g.S.WorldStore.meaning in
    let old = c.args.config.now in
    let first : Config g.row.S.Denot = record old { frames = c.begun.new.self } in
    let begun : first ≡ old = λ i. record old { frames = c.in_ok-inner-in-Some.ensures.same i } in
    let ran = c.statement-done.new.config in
    let same : record ran { frames = c.spare.new.self } ≡ ran = λ i. record ran { frames = c.spare.ensures i } in
    let done = c.statement-done.result in
    subst (λ (x : Config g.row.S.Denot). InMemory done (Later m old x)) (sym same)
    (subst (λ (x : Config g.row.S.Denot). InMemory done (Later m x ran)) begun c.statement-done.ensures.later)

pub opened-returns-in_ok-inner-in-Some-clause-found : goal.within::opened-returns-in_ok-inner-in-Some-clause-found
opened-returns-in_ok-inner-in-Some-clause-found g t c =
    let ran = c.statement-done.new.config in
    let same : record ran { frames = c.spare.new.self } ≡ ran = λ i. record ran { frames = c.spare.ensures i } in
    let k = c.statement-done.new.stops in
    subst (λ (x : Config g.row.S.Denot). HasOutcome g.S.WorldStore.meaning HasCompletion x c.statement-done.result k.waits k.top) (sym same) c.statement-done.ensures.found

pub opened-returns-in_ok-inner-in-Some-clause-does : goal.within::opened-returns-in_ok-inner-in-Some-clause-does
opened-returns-in_ok-inner-in-Some-clause-does g t c =
    let m = g.S.WorldStore.meaning in
    let old = c.args.config.now in
    let f = c.args.frame.now in
    let first : Config g.row.S.Denot = record old { frames = c.begun.new.self } in
    let begun : first ≡ old = λ i. record old { frames = c.in_ok-inner-in-Some.ensures.same i } in
    let ran = c.statement-done.new.config in
    let new : Config g.row.S.Denot = record ran { frames = c.spare.new.self } in
    let same : new ≡ ran = λ i. record ran { frames = c.spare.ensures i } in
    let inner = c.set_world.new.self in
    let start : inner ≡ record (at_node f c.args.block []) { world = c.in-Some.world } = c.set_world.ensures ∙ ap (λ (q : Frame). record q { world = c.in-Some.world }) c.in_ok-inner-in-Some.ensures.frame in
    let k = c.statement-done.new.stops in
    world_opened m completion_in old new f c.args.block c.args.given c.in-Some.world c.statement-done.result k.waits k.top
    (subst (λ (o : Option WorldId). Does m (λ t. world_then (value_in t c.args.given)) (λ t. o) old old) c.in-Some.is c.in_ok-found.ensures.does)
    (block_inside m completion_in old first ran new f inner c.args.block c.in-Some.world c.statement-done.result k.waits k.top begun start same c.statement-done.ensures.does)

pub opened-returns-in-None-clause-later : goal.within::opened-returns-in-None-clause-later
opened-returns-in-None-clause-later g t c =
    later_stopped g.S.WorldStore.meaning {A = Completion} c.args.config.now c.stop.new.config (Err c.stop.result) c.requires.base c.stop.ensures.same

pub opened-returns-in-None-clause-found : goal.within::opened-returns-in-None-clause-found
opened-returns-in-None-clause-found g t c =
    let s = c.stop.new.stops in
    stop_found g.S.WorldStore.meaning c.args.config.now c.stop.new.config c.args.frame.now c.args.node [] (phases.Given (points.Stmt (stmt.WithinWorld c.args.block)) (completions.Gives c.args.given)) c.stop.result s.waits s.top c.stop.ensures.same
    c.requires.there c.requires.node tt (c.requires.block, c.requires.value) c.stop.ensures.stops

pub opened-returns-in-None-clause-does : goal.within::opened-returns-in-None-clause-does
opened-returns-in-None-clause-does g t c =
    let s = c.stop.new.stops in
    given_does g.S.WorldStore.meaning completion_in c.args.config.now c.stop.new.config c.args.frame.now c.stop.result s.waits s.top c.stop.ensures.same c.args.node [] (points.Stmt (stmt.WithinWorld c.args.block))
    (completions.Gives c.args.given) c.stop.ensures.stops
