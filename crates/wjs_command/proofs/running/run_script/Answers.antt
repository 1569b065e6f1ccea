use Rattle.std.proofs.Common.{refl}
use Rattle.wjs_meaning.specs.Programs.{machine}
use Rattle.wjs_model.specs.Units.{unit_in}
use Rattle.wjs_command.specs.Runs.{told_by_run}
use Rattle.wjs_command.specs.Attempt.{something, IsRunOf}
use Rattle.wjs_command.proofs.Deliveries.{spent_comes}
use Rattle.wjs_command.proofs.running.run_script.Goals as goal

pub returns : goal.returns
returns g c =
    let b = c.in_ok-config.ensures in
    let r = machine b.library (unit_in c.args.texts c.args.script) c.args.steps in
    something (told_by_run c.args.mode r) (record { library = b.library; first = b.first; is = refl }) (c.run_whole.ensures r b.run)

pub returns-in_err-config : goal.returns-in_err-config
returns-in_err-config g c =
    let seen = g.O.Sink.seen c.args.out.now in
    spent_comes (IsRunOf c.args.texts c.args.script c.args.steps c.args.mode) seen.bytes seen.faults c.from_residual.result c.from_residual.ensures.1
