use Rattle.std.proofs.Common.{◌∷◌}
use Rattle.wjs_base.specs.declared.values.Value.TheVariants as values
use Rattle.wjs_model.specs.declared.frame.Held.TheVariants as holds
use Rattle.wjs_frames.proofs.Handling.{runs_held, runs_later}
use Rattle.wjs_literals.proofs.objects.object_start.Goals as goal

pub object_next-requires-clause-runs : goal.object_next-requires-clause-runs
object_next-requires-clause-runs g c =
    let runs = runs_later _ _ _ _ c.requires.runs c.in_ok-object.ensures.later in
    rw c.in_ok-hold.ensures (runs_held g.S.WorldStore.meaning c.create_plain.new.config c.args.frame
    (holds.Value (values.Object c.in_ok-object.object) ∷ c.args.frame.held) runs (c.in_ok-object.ensures.found, runs.there.held))
