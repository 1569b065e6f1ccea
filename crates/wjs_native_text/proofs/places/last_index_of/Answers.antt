use Rattle.std.proofs.Common.{sym}
use Rattle.wjs_frames.specs.Parts.{env_in}
use Rattle.wjs_step_common.proofs.Following.{follows_as}
use Rattle.wjs_native_text.proofs.places.last_index_of.Goals as goal

pub returns : goal.returns
returns g c =
    let m = g.S.WorldStore.meaning in
    let old = c.args.config.now in
    let new = c.give.new.config in
    let t = new.heap.texts in
    follows_as m _ _ old new c.give.result (λ grows. sym (c.in_ok-place.ensures t grows (env_in m old t c.args.frame))) c.give.ensures
