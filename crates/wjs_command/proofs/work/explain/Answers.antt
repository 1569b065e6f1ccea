use Rattle.std.proofs.Common.{Err, refl, subst, sym, codes}
use Rattle.wjs_command.specs.declared.report.Stop.{Stop}
use Rattle.wjs_command.specs.declared.status.Status.TheVariants.{OutOfMemory}
use Rattle.wjs_io.specs.Streams.{stream}
use Rattle.wjs_command.specs.Table.{line}
use Rattle.wjs_command.specs.Attempt.{Finishes}
use Rattle.wjs_io.proofs.Written.{tried}
use Rattle.wjs_command.proofs.work.explain.Goals as goal

pub returns-in-OutOfMemory : goal.returns-in-OutOfMemory
returns-in-OutOfMemory g c =
    let before = (g.E.Sink.seen c.args.err.now).bytes in
    let after = (g.E.Sink.seen c.write_all_of-tried.new.sink).bytes in
    let faults = (g.E.Sink.seen c.args.err.now).faults in
    let more = (g.E.Sink.seen c.write_all_of-tried.new.sink).faults in
    let P : Stop → Type 0 = λ stop. Finishes (stream before after faults more) (Err stop) OutOfMemory in
    let wrote = c.write_all_of-tried.ensures in
    subst P (sym c.in-OutOfMemory.is) (refl, tried before after faults more (line (codes "out of memory")) c.write_all_of-tried.result wrote.ok wrote.few wrote.gone wrote.cause)
