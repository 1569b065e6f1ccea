use Rattle.std.proofs.Common.{[], codes, refl}
use Rattle.wjs_io.specs.Streams.{over}
use Rattle.wjs_command.specs.declared.status.Status.TheVariants.{Done}
use Rattle.wjs_command.specs.Table.{Told, line}
use Rattle.wjs_command.proofs.Scripts.{agree_comes, audit_comes}
use Rattle.wjs_command.proofs.auditing.audit.Goals as goal

pub returns-in-Ok : goal.returns-in-Ok
returns-in-Ok g c =
    let seen = g.O.Sink.seen in
    let told : Told = record { out = line (codes "yes"); err = []; status = Done } in
    agree_comes c.args.bytes.now (over seen c.args.out.now c.agree.new.out) c.agree.result told
    (record { right = c.in-Ok.ensures.right; is = refl }) c.agree.ensures

pub returns-in-Err : goal.returns-in-Err
returns-in-Err g c =
    audit_comes c.args.bytes.now c.in-Err.fault c.refuse_or_stop.result (g.O.Sink.seen c.args.out.now).bytes (g.O.Sink.seen c.args.out.now).faults
    c.in-Err.ensures.fault c.refuse_or_stop.ensures
