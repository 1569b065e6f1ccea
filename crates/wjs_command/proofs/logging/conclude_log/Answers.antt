use Rattle.std.proofs.Common.{List, subst}
use Rattle.wjs_by_content.specs.Plans.{Told}
use Rattle.wjs_io.specs.Streams.{over}
use Rattle.wjs_logs.specs.Telling.{Tells}
use Rattle.wjs_command.proofs.Loggings.{not_marked, log_comes}
use Rattle.wjs_command.specs.Runs.{LogsRun}
use Rattle.wjs_command.proofs.Deliveries.{spent_comes}
use Rattle.wjs_command.proofs.logging.conclude_log.Goals as goal

pub spell_store-requires-clause-works : goal.spell_store-requires-clause-works
spell_store-requires-clause-works g c =
    let store = c.args.config.heap.store in
    not_marked (g.S.WorldStore.meaning store.inner).spent store.spent c.requires.sound.base.works

pub spell_store-requires-clause-known : goal.spell_store-requires-clause-known
spell_store-requires-clause-known g c = c.requires.sound.base.told

pub returns : goal.returns
returns g c = λ r is told.
    let seen = g.O.Sink.seen in
    log_comes c.in_ok-log.log.items c.as_slice.result.now (over seen c.args.out.now c.write_and_tell.new.out) c.write_and_tell.result r
    c.as_slice.ensures.value (subst (λ (ds : List Told). Tells c.in_ok-log.log.items ds) told c.in_ok-log.ensures) (c.write_and_tell.ensures r is)

pub returns-in_err-log : goal.returns-in_err-log
returns-in_err-log g c = λ r is told.
    let seen = g.O.Sink.seen c.args.out.now in
    spent_comes (LogsRun r) seen.bytes seen.faults c.from_residual.result c.from_residual.ensures.1
