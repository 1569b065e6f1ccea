use Rattle.std.proofs.Common.{ap, sym, ◌∙◌}
use Rattle.wjs_by_content.specs.Conversions.{primitive_number}
use Rattle.wjs_step_common.proofs.Knowing.{knows, value_stays}
use Rattle.wjs_step_common.proofs.values.to_number.Goals as goal

pub to_number-requires : goal.to_number-requires
to_number-requires g c = knows g.S.WorldStore.meaning c.args.config.now c.args.value c.requires.base c.requires.value

pub returns : goal.returns
returns g c = λ t grows. ap primitive_number (value_stays g.S.WorldStore.meaning c.args.config.now t c.args.value c.requires.base c.requires.value grows) ∙ sym c.to_number.ensures
