use Rattle.wjs_frames.specs.Parts.{env_in}
use Rattle.wjs_step_common.proofs.Following.{follows_as}
use Rattle.wjs_native_core.proofs.arrays.new_array.Goals as goal

pub returns-in-Some : goal.returns-in-Some
returns-in-Some g c =
    let m = g.S.WorldStore.meaning in
    let old = c.args.config.now in
    let new = c.array_of_length.new.config in
    follows_as m _ _ old new c.array_of_length.result (λ grows. c.in-Some.ensures new.heap.texts (env_in m old new.heap.texts c.args.frame)) c.array_of_length.ensures

pub returns-in-None : goal.returns-in-None
returns-in-None g c =
    let m = g.S.WorldStore.meaning in
    let old = c.args.config.now in
    let new = c.array_of.new.config in
    follows_as m _ _ old new c.array_of.result (λ grows. c.in-None.ensures new.heap.texts (env_in m old new.heap.texts c.args.frame)) c.array_of.ensures
