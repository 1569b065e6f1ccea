use Rattle.std.proofs.Common.{◌∙◌}
use Rattle.wjs_machine_tests.proofs.Telling.{told_at_end, program_told}
use Rattle.wjs_machine_tests.proofs.runs.run_program.Goals as goal

pub returns-in_default : goal.returns-in_default
returns-in_default g c =
    let m = g.S.WorldStore.meaning in
    let first = c.in_ok-config.config in
    let admitted = (g.met.S.WorldStore.sound first.heap.store c.in_ok-config.ensures.sound.base.works).admits_own in
    told_at_end m first c.run_unheard.new.config c.run_unheard.result c.in_default.not-OutOfMemory c.run_unheard.ensures
    ∙ program_told m c.args.texts (m c.args.store) c.args.library c.args.script c.args.budget first admitted c.requires.library c.requires.script c.in_ok-config.ensures.starts
