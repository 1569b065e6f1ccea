use Rattle.wjs_machine_tests.proofs.Walked.{walked_sound, walked_units, walked_most, walked_left, none_walked}
use Rattle.wjs_machine_tests.proofs.walks.walk_on.Goals as goal

pub returns-in-Running-clause-sound : goal.returns-in-Running-clause-sound
returns-in-Running-clause-sound g c = walked_sound g.S.WorldStore.meaning c.args.steps c.args.config.now c.walk.new.config c.walk.result c.walk.ensures

pub returns-in-Running-clause-units : goal.returns-in-Running-clause-units
returns-in-Running-clause-units g c = walked_units g.S.WorldStore.meaning c.args.steps c.args.config.now c.walk.new.config c.walk.result c.walk.ensures

pub returns-in-Running-clause-most : goal.returns-in-Running-clause-most
returns-in-Running-clause-most g c = walked_most g.S.WorldStore.meaning c.args.steps c.args.config.now c.walk.new.config c.walk.result c.walk.ensures

pub returns-in-Running-clause-left : goal.returns-in-Running-clause-left
returns-in-Running-clause-left g c = walked_left g.S.WorldStore.meaning c.args.steps c.args.config.now c.walk.new.config c.walk.result c.walk.ensures

pub returns-in_default-clause-left : goal.returns-in_default-clause-left
returns-in_default-clause-left g c = none_walked c.args.config.now.left
