use Rattle.wjs_frames.proofs.Handling.{runs_later}
use Rattle.wjs_literals.proofs.objects.object_next.Goals as goal

pub enter_property-requires-clause-runs : goal.enter_property-requires-clause-runs
enter_property-requires-clause-runs g c = runs_later _ _ _ _ c.requires.runs c.in_ok-reached.ensures.later

pub returns : goal.returns
returns g c = c.in_ok-reached.ensures.proceeds.by c.enter_property.new.config c.enter_property.result c.enter_property.ensures
