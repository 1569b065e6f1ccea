use Rattle.std.proofs.Common.{Some, ap, subst, ◌∙◌}
use Rattle.wjs_base.specs.declared.ids.ObjId.{ObjId}
use Rattle.wjs_meaning.specs.Deeds.{Do, Create}
use Rattle.wjs_meaning.specs.NewObjects.{scope_object}
use Rattle.wjs_frames.specs.Doing.{Does}
use Rattle.wjs_model.proofs.Standing.{scope_kept}
use Rattle.wjs_heap_steps.proofs.Later.{later_twice}
use Rattle.wjs_blocks.proofs.Catching.{catch_follows, caught_stands_later}
use Rattle.wjs_frames.proofs.Handling.{runs_later}
use Rattle.wjs_frames.proofs.Parting.{stands_if_later}
use Rattle.wjs_blocks.proofs.tries.catch.Goals as goal

pub returns : goal.returns
returns g c =
    let m = g.S.WorldStore.meaning in
    let old = c.args.config.now in
    let mid = c.create_scope.new.config in
    let Made : ObjId → Type 0 = λ s. Does m (λ t go. Do (Create old.owner (scope_object s)) go) (λ t. c.in_ok-scope.scope) old mid in
    catch_follows m old mid c.write.new.config c.enter_in.new.config c.args.frame c.args.handler c.args.last c.args.value c.in_ok-scope.scope
    c.name_of-name.result c.enter_in.result (subst Made c.scope.ensures c.in_ok-scope.ensures.does) c.in_ok-scope.ensures.later c.name_of-name.ensures.name
    c.in_ok-write.ensures.does c.in_ok-write.ensures.later c.enter_in.ensures

pub enter_in-requires-clause-outer : goal.enter_in-requires-clause-outer
enter_in-requires-clause-outer g c = scope_kept c.create_scope.new.config.heap.arena c.write.new.config.heap.arena c.in_ok-write.ensures.later.arena c.in_ok-scope.scope c.args.frame.scope (c.in_ok-scope.ensures.outer ∙ ap Some c.scope.ensures)

pub enter_in-requires-clause-part : goal.enter_in-requires-clause-part
enter_in-requires-clause-part g c =
    caught_stands_later g.S.WorldStore.meaning c.args.config.now c.create_scope.new.config c.write.new.config c.args.frame c.args.handler
    c.in_ok-scope.scope c.requires.runs.there c.requires.handler c.in_ok-scope.ensures.later (c.in_ok-scope.ensures.outer ∙ ap Some c.scope.ensures)
    c.in_ok-write.ensures.later

pub enter_in-requires-clause-point : goal.enter_in-requires-clause-point
enter_in-requires-clause-point g c =
    let m = g.S.WorldStore.meaning in
    let mid = c.create_scope.new.config in
    let late = c.write.new.config in
    stands_if_later m c.args.config.now c.args.frame late c.args.last
    (later_twice m c.args.config.now mid late c.in_ok-scope.ensures.later c.in_ok-write.ensures.later) c.requires.last

pub write-requires-clause-there : goal.write-requires-clause-there
write-requires-clause-there g c = c.in_ok-scope.ensures.later.frames c.args.frame c.requires.runs.there

pub enter_in-requires-clause-runs : goal.enter_in-requires-clause-runs
enter_in-requires-clause-runs g c = runs_later _ _ _ _ (runs_later _ _ _ _ c.requires.runs c.in_ok-scope.ensures.later) c.in_ok-write.ensures.later
