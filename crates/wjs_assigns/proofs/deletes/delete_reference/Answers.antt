use Rattle.wjs_meaning.specs.Operators.{give_truth}
use Rattle.wjs_model.specs.Contents.{reference_in}
use Rattle.wjs_frames.specs.Parts.{env_in}
use Rattle.wjs_step_common.proofs.Following.{follows_as}
use Rattle.wjs_effects.proofs.Telling.{delete_line}
use Rattle.wjs_assigns.proofs.deletes.delete_reference.Goals as goal

pub returns : goal.returns
returns g c =
    let m = g.S.WorldStore.meaning in
    let old = c.args.config.now in
    let new = c.told.new.config in
    let t = new.heap.texts in
    follows_as m _ _ old new c.told.result (λ grows. delete_line (env_in m old t c.args.frame) (reference_in t c.args.reference)) (c.in_ok-gone.ensures.does.by give_truth new c.told.result c.told.ensures)
