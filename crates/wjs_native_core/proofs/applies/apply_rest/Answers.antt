use Rattle.std.proofs.Common.{◌<◌, rules}
use Rattle.wjs_model.specs.Contents.{elements_held}
use Rattle.wjs_frames.specs.Parts.{env_in}
use Rattle.wjs_step_common.proofs.Following.{follows_as}
use Rattle.wjs_native_core.proofs.Applying.{apply_due}
use Rattle.wjs_native_core.proofs.applies.apply_rest.Goals as goal

pub returns-then-read-count : goal.returns-then-read-count
returns-then-read-count g c =
    let m = g.S.WorldStore.meaning in
    let old = c.args.config.now in
    let new = c.due_later.new.config in
    let t = new.heap.texts in
    let f = c.args.frame in
    let less : c.args.read < (elements_held f.held).1 = search rules in
    follows_as m _ _ old new c.due_later.result (λ grows. apply_due t f.held c.args.function c.args.this c.args.read (env_in m old t f) c.requires.callee less) c.due_later.ensures
