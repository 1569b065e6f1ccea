use Rattle.wjs_machine_tests.proofs.Later.{turn_leaves}
use Rattle.wjs_machine_tests.proofs.turns.turn.Goals as goal

pub returns : goal.returns
returns g c = turn_leaves g.S.WorldStore.meaning c.args.config.now c.step.new.config c.step.result c.step.ensures
