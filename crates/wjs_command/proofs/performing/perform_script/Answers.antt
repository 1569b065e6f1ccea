use Rattle.std.proofs.Common.{[], codes, refl}
use Rattle.wjs_io.specs.Streams.{over}
use Rattle.wjs_model.specs.Units.{unit_in}
use Rattle.wjs_command.specs.declared.status.Status.TheVariants.{Done}
use Rattle.wjs_command.specs.Table.{Told, line}
use Rattle.wjs_command.specs.Due.{owed_in, reads}
use Rattle.wjs_command.specs.Attempt.{IsRunOf, IsLogRun}
use Rattle.wjs_command.proofs.Deliveries.{comes_as, spent_comes}
use Rattle.wjs_command.proofs.Scripts.{most_script, run_told, log_told, fault_comes, check_comes}
use Rattle.wjs_command.proofs.performing.perform_script.Goals as goal

pub load-requires : goal.load-requires
load-requires g c = most_script c.args.options.mode c.args.bytes.now c.requires.mode c.requires.within

pub returns-in-Check : goal.returns-in-Check
returns-in-Check g c =
    let seen = g.O.Sink.seen in
    let told : Told = record { out = line (codes "ok"); err = []; status = Done } in
    let loaded = c.in-Ok in
    check_comes c.args.options.mode c.args.options.steps c.args.options.turn c.args.bytes.now (over seen c.args.out.now c.accept.new.out) c.accept.result told
    c.in-Check.is (reads (record { tree = unit_in c.load.new.texts loaded.script; spelled = loaded.ensures.ok; owed = refl })) c.accept.ensures

pub returns-in-Log : goal.returns-in-Log
returns-in-Log g c =
    let seen = g.O.Sink.seen in
    let options = c.args.options in
    let bytes = c.args.bytes.now in
    let texts = c.load.new.texts in
    let loaded = c.in-Ok in
    let out = over seen c.args.out.now c.log_script.new.out in
    comes_as (IsLogRun texts loaded.script options.steps) (owed_in options.mode options.steps options.turn bytes) out c.log_script.result
    (log_told options bytes texts loaded.script c.in-Log.is loaded.ensures.ok)
    c.log_script.ensures

pub returns-in_default : goal.returns-in_default
returns-in_default g c =
    let seen = g.O.Sink.seen in
    let options = c.args.options in
    let bytes = c.args.bytes.now in
    let texts = c.load.new.texts in
    let loaded = c.in-Ok in
    let out = over seen c.args.out.now c.run_script.new.out in
    comes_as (IsRunOf texts loaded.script options.steps options.mode) (owed_in options.mode options.steps options.turn bytes) out c.run_script.result
    (run_told options bytes texts loaded.script c.requires.mode c.requires.script c.in_default.not-Check c.in_default.not-Log loaded.ensures.ok)
    c.run_script.ensures

pub returns-in-Err : goal.returns-in-Err
returns-in-Err g c =
    fault_comes c.args.options c.args.bytes.now c.in-Err.fault c.refuse_or_stop.result (g.O.Sink.seen c.args.out.now).bytes
    (g.O.Sink.seen c.args.out.now).faults c.requires.mode c.requires.script c.in-Err.ensures.err c.refuse_or_stop.ensures

pub returns-in_err-texts : goal.returns-in_err-texts
returns-in_err-texts g c =
    let seen = g.O.Sink.seen c.args.out.now in
    spent_comes (owed_in c.args.options.mode c.args.options.steps c.args.options.turn c.args.bytes.now) seen.bytes seen.faults c.from_residual.result c.from_residual.ensures.1
