use Rattle.wjs_step_common.proofs.Following.{follows_as}
use Rattle.wjs_native_text.proofs.math.abs.Goals as goal

pub returns : goal.returns
returns g c =
    let m = g.S.WorldStore.meaning in
    let old = c.args.config.now in
    let new = c.give.new.config in
    let t = new.heap.texts in
    follows_as m _ _ old new c.give.result (λ grows. rw (c.whole_at.ensures t) (cc)) c.give.ensures
