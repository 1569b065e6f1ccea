use Rattle.wjs_io.specs.Streams.{over}
use Rattle.wjs_command.proofs.Attempts.{serve_generated}
use Rattle.wjs_command.proofs.work.obey.Goals as goal

pub returns-in-Gen : goal.returns-in-Gen
returns-in-Gen g c =
    let out = over g.O.Sink.seen c.args.out.now c.generate.new.out in
    serve_generated c.args.options (g.S.Source.seen c.args.source.now).bytes (g.S.Source.seen c.args.source.now).faults out c.generate.result c.in-Gen.is
    c.generate.ensures
