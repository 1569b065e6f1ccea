use Rattle.wjs_frames.proofs.Handling.{runs_later}
use Rattle.wjs_literals.proofs.arrays.array_next.Goals as goal

pub enter_item-requires-clause-runs : goal.enter_item-requires-clause-runs
enter_item-requires-clause-runs g c = runs_later _ _ _ _ c.requires.runs c.in_ok-reached.ensures.later

pub returns : goal.returns
returns g c = c.in_ok-reached.ensures.proceeds.by c.enter_item.new.config c.enter_item.result c.enter_item.ensures
