use Rattle.std.proofs.Common.{◌<◌, Vec, Global, length, sym, subst}
use Rattle.wjs_model.specs.declared.loaded.LoadedProgram.{LoadedProgram as Program}
use Rattle.wjs_machine_tests.proofs.Walked.{base_in, entered_sound, entered_units, entered_running, entered_left}
use Rattle.wjs_machine_tests.proofs.walks.enter_below.Goals as goal

pub enter-requires-clause-base : goal.enter-requires-clause-base
enter-requires-clause-base g c = base_in g.S.WorldStore.meaning c.sprout.new.config c.new.result c.in_ok-child.child c.new.ensures c.in_ok-child.ensures.found c.in_ok-child.ensures.later.base

pub enter-requires-clause-part : goal.enter-requires-clause-part
enter-requires-clause-part g c = subst (λ (us : Vec Program Global). c.args.part < length us.items) (sym c.in_ok-child.ensures.later.units) c.requires.part

pub returns-clause-sound : goal.returns-clause-sound
returns-clause-sound g c = entered_sound g.S.WorldStore.meaning c.args.part c.args.budget _ c.enter.new.config c.enter.result c.enter.ensures

pub returns-clause-units : goal.returns-clause-units
returns-clause-units g c = entered_units g.S.WorldStore.meaning c.args.part c.args.budget _ c.enter.new.config c.args.config.now.units c.in_ok-child.ensures.later.units c.enter.result c.enter.ensures

pub returns-clause-running : goal.returns-clause-running
returns-clause-running g c = entered_running g.S.WorldStore.meaning c.args.part c.args.budget _ c.enter.new.config c.enter.result c.enter.ensures

pub returns-clause-left : goal.returns-clause-left
returns-clause-left g c = entered_left g.S.WorldStore.meaning c.args.part c.args.budget _ c.enter.new.config c.enter.result c.enter.ensures
