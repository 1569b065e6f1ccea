use Rattle.wjs_frames.proofs.Handling.{runs_later}
use Rattle.wjs_calls.proofs.calls.call_script.Goals as goal

pub enter_body-requires-clause-runs : goal.enter_body-requires-clause-runs
enter_body-requires-clause-runs g c = runs_later _ _ _ _ c.requires.runs c.in_ok-answer.ensures.later
