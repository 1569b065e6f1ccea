use Rattle.std.proofs.Common.{refl, ◌∷◌}
use Rattle.wjs_step_common.proofs.Following.{follows_as}
use Rattle.wjs_model.specs.declared.frame.Held.TheVariants as holds
use Rattle.wjs_frames.proofs.Handling.{runs_held}
use Rattle.wjs_members.proofs.members.at_object.Goals as goal

pub returns : goal.returns
returns g c = follows_as _ _ _ _ _ _ (λ grows. rw c.in_ok-hold.ensures refl) c.convert.ensures

pub convert-requires-clause-runs : goal.convert-requires-clause-runs
convert-requires-clause-runs g c =
    rw c.in_ok-hold.ensures (runs_held g.S.WorldStore.meaning c.args.config.now c.args.frame (holds.Value c.args.base ∷ c.args.frame.held) c.requires.runs
    (c.requires.base, c.requires.runs.there.held))
