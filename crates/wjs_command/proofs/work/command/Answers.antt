use Rattle.std.proofs.Common.{map as each}
use Rattle.std.specs.String.{string_bytes}
use Rattle.wjs_io.specs.Streams.{over}
use Rattle.wjs_command.proofs.Attempts.{ends_from}
use Rattle.wjs_command.proofs.work.command.Goals as goal

pub returns-clause-ends : goal.returns-clause-ends
returns-clause-ends g c =
    ends_from (each string_bytes c.args.words.now)
    (over g.S.Source.seen c.args.source.now c.attempt-outcome.new.source)
    (over g.O.Sink.seen c.args.out.now c.attempt-outcome.new.out)
    (over g.E.Sink.seen c.args.err.now c.finish.new.err)
    c.attempt-outcome.result c.finish.result c.attempt-outcome.ensures c.finish.ensures
