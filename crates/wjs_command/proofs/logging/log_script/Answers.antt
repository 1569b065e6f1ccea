use Rattle.wjs_io.specs.Streams.{over}
use Rattle.wjs_command.proofs.Loggings.{logged_new, log_run}
use Rattle.wjs_command.specs.Attempt.{IsLogRun}
use Rattle.wjs_command.proofs.Deliveries.{spent_comes}
use Rattle.wjs_command.proofs.logging.log_script.Goals as goal

pub begin-requires-clause-new : goal.begin-requires-clause-new
begin-requires-clause-new g c = logged_new g.S.WorldStore.meaning c.args.store c.new.result c.requires.new c.new.ensures

pub returns : goal.returns
returns g c =
    let seen = g.O.Sink.seen in
    log_run g.S.WorldStore.meaning c.args.texts c.args.script c.args.steps c.in_ok-config.config (over seen c.args.out.now c.log_whole.new.out) c.log_whole.result
    c.in_ok-config.ensures c.log_whole.ensures

pub returns-in_err-config : goal.returns-in_err-config
returns-in_err-config g c =
    let seen = g.O.Sink.seen c.args.out.now in
    spent_comes (IsLogRun c.args.texts c.args.script c.args.steps) seen.bytes seen.faults c.from_residual.result c.from_residual.ensures.1
