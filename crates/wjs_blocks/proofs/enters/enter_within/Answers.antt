use Rattle.std.proofs.Common.{sym, subst}
use Rattle.std.specs.Prelude.{OnOk}
use Rattle.wjs_meaning.specs.Deeds.{Eval, Ret}
use Rattle.wjs_model.specs.declared.frame.Activation.{Activation as Frame}
use Rattle.wjs_model.specs.Soundness.{IsThere, StandsHere}
use Rattle.wjs_frames.specs.Following.{Follows}
use Rattle.wjs_frames.specs.Parts.{env_in, goal_of, node_of}
use Rattle.wjs_blocks.proofs.Standing.{within_there}
use Rattle.wjs_frames.proofs.Handling.{runs_as}
use Rattle.wjs_blocks.proofs.enters.enter_within.Goals as goal

pub returns : goal.returns
returns g c =
    let m = g.S.WorldStore.meaning in
    let old = c.args.config.now in
    let new = c.enter_last.new.config in
    subst (λ (f : Frame). OnOk c.enter_last.result (Follows m (Eval (goal_of c.args.part) (env_in m old new.heap.texts f) Ret) old new)) c.set_world.ensures c.enter_last.ensures

pub enter_last-requires-clause-runs : goal.enter_last-requires-clause-runs
enter_last-requires-clause-runs g c =
    runs_as _ _ _ _ c.requires.runs (subst (λ (f : Frame). IsThere g.S.WorldStore.meaning c.args.config.now f) (sym c.set_world.ensures)
    (within_there g.S.WorldStore.meaning c.args.config.now c.args.frame c.requires.runs.there c.args.world c.requires.world c.requires.shown))

pub enter_last-requires-clause-part : goal.enter_last-requires-clause-part
enter_last-requires-clause-part g c = subst (λ (f : Frame). StandsHere c.args.config.now f (node_of c.args.part)) (sym c.set_world.ensures) c.requires.part
