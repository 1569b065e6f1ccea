use Rattle.std.proofs.Common.{None, sym, ◌∙◌}
use Rattle.wjs_io.specs.Streams.{stream}
use Rattle.wjs_logs.specs.Telling.{logged}
use Rattle.wjs_command.proofs.Endings.{ended}
use Rattle.wjs_command.proofs.Loggings.{has_logged, log_stops}
use Rattle.wjs_command.proofs.logging.log_whole.Goals as goal

pub returns-in-Some : goal.returns-in-Some
returns-in-Some g c = λ r is.
    let ran = c.run-ending in
    log_stops g.S.WorldStore.meaning (g.O.Sink.seen c.args.out.now).bytes (g.O.Sink.seen c.args.out.now).faults c.args.config ran.new.config ran.result
    c.in-Some.stop (sym c.stop_of.ensures ∙ c.in-Some.is) ran.ensures.ends r

pub returns-in-None : goal.returns-in-None
returns-in-None g c = λ r is.
    let m = g.S.WorldStore.meaning in
    let ran = c.run-ending in
    let s = stream None None 0 0 in
    let open_end = sym c.stop_of.ensures ∙ c.in-None.is in
    c.conclude_log.ensures r ((ended (logged m) s c.args.config ran.new.config ran.result open_end ran.ensures.ends).is_end r is) (has_logged m s c.args.config ran.new.config ran.result open_end ran.ensures.ends r is)
