use Rattle.std.proofs.Common.{refl, ◌∷◌}
use Rattle.wjs_step_common.proofs.Following.{follows_as}
use Rattle.wjs_model.specs.declared.frame.Held.TheVariants as holds
use Rattle.wjs_frames.proofs.Handling.{runs_held}
use Rattle.wjs_operators.proofs.binary.enter_right.Goals as goal

pub enter-requires-clause-part : goal.enter-requires-clause-part
enter-requires-clause-part g c = rw c.in_ok-hold.ensures c.requires.right

pub enter-requires-clause-runs : goal.enter-requires-clause-runs
enter-requires-clause-runs g c =
    rw c.in_ok-hold.ensures (runs_held g.S.WorldStore.meaning c.args.config.now c.args.frame (holds.Value c.args.value ∷ c.args.frame.held) c.requires.runs
    (c.requires.value, c.requires.runs.there.held))

pub returns : goal.returns
returns g c = follows_as _ _ _ _ _ _ (λ grows. rw c.in_ok-hold.ensures refl) c.enter.ensures
