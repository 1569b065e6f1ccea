use Rattle.wjs_io.specs.Streams.{over}
use Rattle.wjs_command.specs.Table.{Told}
use Rattle.wjs_command.specs.Runs.{line_of_end, status_of_end, behind_output}
use Rattle.wjs_command.proofs.Deliveries.{writes_stop, spent_delivers}
use Rattle.wjs_command.proofs.running.conclude.Goals as goal

pub returns-in-Err : goal.returns-in-Err
returns-in-Err g c = λ r h.
    let seen = g.O.Sink.seen in
    let told : Told = record { out = behind_output c.args.mode r.1; err = line_of_end r.0 r.1; status = status_of_end r.0 } in
    writes_stop told (over seen c.args.out.now c.write_behind.new.out) c.in-Err.stop (c.in-Err.ensures r.1 h.worlds_are)

pub returns-in_err-tell : goal.returns-in_err-tell
returns-in_err-tell g c = λ r h.
    let seen = g.O.Sink.seen in
    let told : Told = record { out = behind_output c.args.mode r.1; err = line_of_end r.0 r.1; status = status_of_end r.0 } in
    spent_delivers told (over seen c.args.out.now c.write_behind.new.out) c.from_residual.result c.from_residual.ensures.1 (c.in-Ok.ensures r.1 h.worlds_are)
