use Rattle.std.proofs.lemmas.Result.{MatchResult-at_ok, MatchResult-at_err}
use Rattle.wjs_step_common.proofs.Following.{follows_as}
use Rattle.wjs_frames.specs.Parts.{node_now}
use Rattle.wjs_effects.proofs.Declared.{variable_named, no_variable_stores}
use Rattle.wjs_loops.proofs.Storing.{stored_follows, unstored_follows}
use Rattle.wjs_frames.proofs.Handling.{runs_later}
use Rattle.wjs_loops.proofs.variables.variable_stored.Goals as goal

pub place_of-place-requires : goal.place_of-place-requires
place_of-place-requires g c = record { named = variable_named (node_now g.S.WorldStore.meaning c.args.config.now c.args.frame) c.args.at c.in-Some.name c.in-Some.ensures.is }

pub returns-in-Ok : goal.returns-in-Ok
returns-in-Ok g c =
    let later = c.variables_from.new.config in
    stored_follows g.S.WorldStore.meaning c.args.config.now c.assign.new.config later c.variables_from.result c.args.frame c.args.at c.place_of-place.result c.in-Some.name c.args.value (c.place_of-place.ensures later.heap.texts) c.in-Some.ensures.is (MatchResult-at_ok _ _ c.in-Ok.field-0 c.in-Ok.is c.in_ok-assign-in-Some.ensures.does) c.in_ok-assign-in-Some.ensures.later c.variables_from.ensures

pub returns-in-Err : goal.returns-in-Err
returns-in-Err g c =
    let later = c.finish.new.config in
    unstored_follows g.S.WorldStore.meaning c.args.config.now c.assign.new.config later c.finish.result c.args.frame c.args.at c.place_of-place.result c.in-Some.name c.args.value c.in-Err.error (c.place_of-place.ensures later.heap.texts) c.in-Some.ensures.is (MatchResult-at_err _ _ c.in-Err.error c.in-Err.is c.in_ok-assign-in-Some.ensures.does) c.finish.ensures

pub returns-in-None : goal.returns-in-None
returns-in-None g c =
    let later = c.finish-in-None.new.config in
    follows_as g.S.WorldStore.meaning _ _ _ _ c.finish-in-None.result (λ grows. no_variable_stores later.heap.texts _ c.args.frame.node.0 _ c.args.at _ c.in-None.ensures.is) c.finish-in-None.ensures

pub variables_from-requires : goal.variables_from-requires
variables_from-requires g c = record { runs = runs_later _ _ _ _ c.requires.runs c.in_ok-assign-in-Some.ensures.later }
