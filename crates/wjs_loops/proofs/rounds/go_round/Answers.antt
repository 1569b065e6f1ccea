use Rattle.wjs_frames.proofs.Handling.{runs_later}
use Rattle.wjs_loops.proofs.rounds.go_round.Goals as goal

pub go_on_at-requires-clause-runs : goal.go_on_at-requires-clause-runs
go_on_at-requires-clause-runs g c = runs_later _ _ _ _ c.requires.runs c.in_ok-reached.ensures.later

pub returns : goal.returns
returns g c = c.in_ok-reached.ensures.proceeds.by c.go_on_at.new.config c.go_on_at.result c.go_on_at.ensures
