use Rattle.wjs_io.specs.Streams.{over}
use Rattle.wjs_command.specs.Due.{OfLog, owed_in}
use Rattle.wjs_command.proofs.Deliveries.{comes_as}
use Rattle.wjs_command.proofs.Scripts.{served_comes, log_owed}
use Rattle.wjs_command.proofs.performing.perform_in.Goals as goal

pub returns-in-Audit : goal.returns-in-Audit
returns-in-Audit g c =
    let seen = g.O.Sink.seen in
    let options = c.args.options in
    let bytes = c.args.bytes.now in
    let out = over seen c.args.out.now c.audit.new.out in
    served_comes options bytes out c.audit.result c.requires.within
    (comes_as (OfLog bytes) (owed_in options.mode options.steps options.turn bytes) out c.audit.result (λ told h. log_owed options.mode options.steps options.turn bytes told c.in-Audit.is h) c.audit.ensures)

pub returns-in_default : goal.returns-in_default
returns-in_default g c =
    let seen = g.O.Sink.seen in
    served_comes c.args.options c.args.bytes.now (over seen c.args.out.now c.perform_script.new.out) c.perform_script.result c.requires.within
    c.perform_script.ensures
