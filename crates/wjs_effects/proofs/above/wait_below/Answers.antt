use Rattle.std.proofs.Common.{List, sym, subst}
use Rattle.wjs_model.specs.declared.frame.Activation.{Activation as Frame}
use Rattle.wjs_model.specs.Soundness.{HasPoint}
use Rattle.wjs_frames.specs.Following.{Later}
use Rattle.wjs_frames.specs.Handling.{Runs}
use Rattle.wjs_frames.specs.Nesting.{Nests}
use Rattle.wjs_frames.specs.Parts.{env_in, then_at}
use Rattle.wjs_effects.proofs.above.wait_below.Goals as goal

pub wait-requires-clause-runs : goal.wait-requires-clause-runs
wait-requires-clause-runs g c =
    let m = g.S.WorldStore.meaning in
    let old = c.args.config.now in
    subst (λ (fs : List Frame). Runs m (record old { frames = fs }) c.args.frame) (sym c.in_ok-inner.ensures.same) c.requires.runs

pub wait-requires-clause-point : goal.wait-requires-clause-point
wait-requires-clause-point g c =
    let old = c.args.config.now in
    subst (λ (fs : List Frame). HasPoint (record old { frames = fs }) c.args.frame c.args.point) (sym c.in_ok-inner.ensures.same) c.requires.point

pub returns-clause-nests : goal.returns-clause-nests
returns-clause-nests g c =
    let m = g.S.WorldStore.meaning in
    let old = c.args.config.now in
    let new = c.wait.new.config in
    let f = c.args.frame in
    subst (λ (fs : List Frame). let x = record old { frames = fs } in Nests m (λ t. then_at m x f c.args.point t (env_in m x t f)) x new) c.in_ok-inner.ensures.same c.in_ok-wait.ensures.nests

pub returns-clause-later : goal.returns-clause-later
returns-clause-later g c =
    let m = g.S.WorldStore.meaning in
    let old = c.args.config.now in
    subst (λ (fs : List Frame). Later m (record old { frames = fs }) c.wait.new.config) c.in_ok-inner.ensures.same c.in_ok-wait.ensures.later
