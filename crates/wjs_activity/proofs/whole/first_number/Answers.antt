use Rattle.std.proofs.Common.{Option, sym, ap}
use Rattle.std.specs.Option.{option_map}
use Rattle.wjs_model.specs.declared.loaded.LoadedProgram.{LoadedProgram as Program}
use Rattle.wjs_model.specs.Units.{unit_in}
use Rattle.wjs_activity.specs.Rounds.{first_number}
use Rattle.wjs_activity.proofs.whole.first_number.Goals as goal

pub returns-in-None : goal.returns-in-None
returns-in-None c = λ t. sym (ap (λ (o : Option Program). first_number (option_map (unit_in t) o)) c.in-None.is)

pub returns-in-Some : goal.returns-in-Some
returns-in-Some c = λ t. sym (ap (λ (o : Option Program). first_number (option_map (unit_in t) o)) c.in-Some.is)
