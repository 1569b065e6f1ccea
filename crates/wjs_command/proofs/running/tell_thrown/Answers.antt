use Rattle.wjs_command.proofs.Endings.{told_thrown_if}
use Rattle.wjs_command.proofs.running.tell_thrown.Goals as goal

pub returns : goal.returns
returns g c = told_thrown_if g.S.WorldStore.meaning c.args.config c.args.value c.in_ok-text.text.items c.as_slice.result.now c.report_line.result c.requires.first c.in_ok-text.ensures.shows c.as_slice.ensures.value c.report_line.ensures
