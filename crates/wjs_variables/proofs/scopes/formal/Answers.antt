use Rattle.std.proofs.Common.{sym, subst}
use Rattle.wjs_base.specs.declared.values.Value.{Value}
use Rattle.wjs_model.specs.Soundness.{HasValue}
use Rattle.wjs_variables.proofs.Filling.{argument_there}
use Rattle.wjs_variables.proofs.scopes.formal.Goals as goal

pub returns-clause-value : goal.returns-clause-value
returns-clause-value g c = subst (λ (v : Value). HasValue c.args.config.now v) (sym c.argument_at.ensures) (argument_there (HasValue c.args.config.now) tt c.args.values.now c.args.i c.requires.values)
