use Rattle.std.proofs.Common.{subst}
use Rattle.std.specs.Prelude.{OnOk}
use Rattle.wjs_base.specs.declared.ids.WorldId.{WorldId}
use Rattle.wjs_meaning.specs.Deeds as deed
use Rattle.wjs_meaning.specs.Deeds.{Env, Act, Do}
use Rattle.wjs_meaning.specs.NativesOfObjects as line
use Rattle.wjs_frames.specs.Following.{Follows}
use Rattle.wjs_frames.specs.Parts.{env_in}
use Rattle.wjs_step_common.proofs.Following.{env_later}
use Rattle.wjs_native_core.proofs.Telling.{told_ok}
use Rattle.wjs_frames.proofs.Handling.{runs_later}
use Rattle.wjs_native_core.proofs.worlds.commit_to_parent.Goals as goal

pub returns-in-Ok : goal.returns-in-Ok
returns-in-Ok g c =
    let m = g.S.WorldStore.meaning in
    let old = c.args.config.now in
    let mid = c.world_of.new.config in
    let new = c.commit_world.new.config in
    let t = new.heap.texts in
    let r = c.commit_world.result in
    let f = c.args.frame in
    let deeds : Env → WorldId → Act = λ e w. Do (deed.Commit w) (line.commit_answer e) in
    (told_ok _ _ _ _ c.in-Ok.is c.in_ok-world.ensures.does).by (deeds (env_in m old t f)) new r
    (subst (λ (e : Env). OnOk r (Follows m (deeds e c.in-Ok.world) mid new)) (env_later m old mid t f c.in_ok-world.ensures.later) c.commit_world.ensures)

pub commit_world-requires-clause-runs : goal.commit_world-requires-clause-runs
commit_world-requires-clause-runs g c = runs_later _ _ _ _ c.requires.runs c.in_ok-world.ensures.later
