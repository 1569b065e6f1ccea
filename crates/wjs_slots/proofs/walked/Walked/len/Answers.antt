use Rattle.std.proofs.Common.{◌∙◌, ap}
use Rattle.std.specs.FinMap as map
use Rattle.wjs_slots.proofs.walked.Walked.len.Goals as goal

pub returns : goal.returns
returns g c = c.self.invariant ∙ ap map.len c.self.view_is ∙ map.len-entries c.args.self.now
