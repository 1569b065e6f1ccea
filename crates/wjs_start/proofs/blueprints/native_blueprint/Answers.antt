use Rattle.std.proofs.Common.{ap}
use Rattle.wjs_meaning.specs.Table.{Row}
use Rattle.wjs_start.specs.declared.blueprints.Blueprint.{Blueprint}
use Rattle.wjs_start.proofs.Fitting.{native_fits}
use Rattle.wjs_start.proofs.blueprints.native_blueprint.Goals as goal

pub returns-clause-buildable : goal.returns-clause-buildable
returns-clause-buildable c = λ n enough. native_fits c.args.native n c.plain.result.prototype c.row_of-row.result.prototype c.plain.result.world enough (ap (λ (b : Blueprint). b.prototype) c.plain.ensures) (ap (λ (r : Row). r.prototype) c.row_of-row.ensures) (ap (λ (b : Blueprint). b.world) c.plain.ensures)
