use Rattle.std.proofs.Common.{sym, subst}
use Rattle.wjs_model.specs.declared.frame.Activation.{Activation as Frame}
use Rattle.wjs_model.specs.Soundness.{StandsHere}
use Rattle.wjs_frames.specs.Parts.{env_in, then_at, goal_of, node_of}
use Rattle.wjs_frames.proofs.Parting.{stands_later}
use Rattle.wjs_base.specs.Text.{Table}
use Rattle.wjs_blocks.proofs.Inner.{scoped_follows}
use Rattle.wjs_blocks.proofs.Standing.{inner_there}
use Rattle.wjs_frames.proofs.Handling.{runs_over}
use Rattle.wjs_blocks.proofs.enters.enter_in.Goals as goal

pub returns : goal.returns
returns g c =
    let meaning = g.S.WorldStore.meaning in
    let old = c.args.config.now in
    scoped_follows meaning (goal_of c.args.part) (λ (t : Table). then_at meaning old c.args.frame c.args.point t (env_in meaning old t c.args.frame)) old c.wait.new.config c.enter_last.new.config c.args.frame c.in_ok-inner.inner c.args.scope _ c.enter_last.result c.in_ok-wait.ensures.same c.in_ok-inner.ensures c.in_ok-wait.ensures.nests c.enter_last.ensures

pub enter_last-requires-clause-runs : goal.enter_last-requires-clause-runs
enter_last-requires-clause-runs g c =
    let inner = c.in_ok-inner.inner in
    runs_over _ _ _ _ _ c.requires.runs c.in_ok-wait.ensures.later
    (c.in_ok-wait.ensures.later.frames inner (inner_there g.S.WorldStore.meaning c.args.config.now c.args.frame c.requires.runs.there c.args.scope inner
    c.nothing_held.result c.requires.scope c.requires.outer c.nothing_held.ensures c.in_ok-inner.ensures))

pub enter_last-requires-clause-part : goal.enter_last-requires-clause-part
enter_last-requires-clause-part g c =
    let inner = c.in_ok-inner.inner in
    let part = node_of c.args.part in
    stands_later g.S.WorldStore.meaning c.args.config.now inner c.wait.new.config part c.in_ok-wait.ensures.later (subst (λ (f : Frame). StandsHere c.args.config.now f part) (sym c.in_ok-inner.ensures) c.requires.part)
