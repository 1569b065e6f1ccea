use Rattle.std.proofs.Common.{◌∷◌}
use Rattle.wjs_model.specs.declared.frame.Held.TheVariants as holds
use Rattle.wjs_frames.proofs.Handling.{runs_held}
use Rattle.wjs_assigns.proofs.assigns.enter_assigned.Goals as goal

pub enter-requires-clause-part : goal.enter-requires-clause-part
enter-requires-clause-part g c = rw c.in_ok-hold.ensures c.requires.right

pub enter-requires-clause-runs : goal.enter-requires-clause-runs
enter-requires-clause-runs g c =
    rw c.in_ok-hold.ensures (runs_held g.S.WorldStore.meaning c.args.config.now c.args.frame (holds.Reference c.args.reference ∷ c.args.frame.held)
    c.requires.runs (c.requires.reference, c.requires.runs.there.held))
