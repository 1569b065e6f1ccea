use Rattle.std.proofs.Common.{refl, ◌∷◌}
use Rattle.wjs_step_common.proofs.Following.{follows_as}
use Rattle.wjs_model.specs.declared.frame.Held.TheVariants as holds
use Rattle.wjs_frames.proofs.Handling.{runs_held}
use Rattle.wjs_assigns.proofs.assigns.compound_held.Goals as goal

pub compound_nested-requires-clause-runs : goal.compound_nested-requires-clause-runs
compound_nested-requires-clause-runs g c =
    rw c.in_ok-hold.ensures (runs_held g.S.WorldStore.meaning c.args.config.now c.args.frame (holds.Reference c.args.reference ∷ c.args.frame.held)
    c.requires.runs (c.requires.reference, c.requires.runs.there.held))

pub returns : goal.returns
returns g c = follows_as _ _ _ _ _ _ (λ grows. rw c.in_ok-hold.ensures refl) c.compound_nested.ensures
