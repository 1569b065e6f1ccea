use Rattle.wjs_scope.proofs.Arguments.{places_stay as of_program}
use Rattle.wjs_scope.proofs.laws.places_stay.Goals as goal

pub returns : goal.returns
returns c = of_program
