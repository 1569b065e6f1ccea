use Rattle.std.proofs.Common.{ap, sym, ◌∙◌}
use Rattle.wjs_by_content.specs.Conversions.{to_boolean}
use Rattle.wjs_step_common.proofs.Knowing.{knows, value_stays}
use Rattle.wjs_step_common.proofs.values.to_boolean.Goals as goal

pub to_boolean-requires : goal.to_boolean-requires
to_boolean-requires g c = knows g.S.WorldStore.meaning c.args.config.now c.args.value c.requires.base c.requires.value

pub returns : goal.returns
returns g c = λ t grows. ap to_boolean (value_stays g.S.WorldStore.meaning c.args.config.now t c.args.value c.requires.base c.requires.value grows) ∙ sym c.to_boolean.ensures
