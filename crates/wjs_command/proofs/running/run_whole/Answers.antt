use Rattle.std.proofs.Common.{sym, ◌∙◌}
use Rattle.wjs_io.specs.Streams.{over}
use Rattle.wjs_command.proofs.Endings.{ended, stopped, whole_run}
use Rattle.wjs_command.proofs.running.run_whole.Goals as goal

pub returns-in-Some : goal.returns-in-Some
returns-in-Some g c = λ r is.
    let seen = g.O.Sink.seen in
    let ran = c.run-ending in
    let s = over seen c.args.out.now ran.new.out in
    stopped g.S.WorldStore.meaning s c.args.config ran.new.config ran.result c.in-Some.stop c.args.mode (sym c.stop_of.ensures ∙ c.in-Some.is) ran.ensures.ends r is

pub returns-in-None : goal.returns-in-None
returns-in-None g c = λ r is.
    let seen = g.O.Sink.seen in
    let m = g.S.WorldStore.meaning in
    let ran = c.run-ending in
    let s = over seen c.args.out.now ran.new.out in
    whole_run m (seen c.args.out.now).bytes (seen ran.new.out).bytes (seen c.conclude.new.out).bytes (seen c.args.out.now).faults (seen ran.new.out).faults
    (seen c.conclude.new.out).faults c.args.config ran.new.config ran.result c.args.mode c.conclude.result
    ran.ensures.never_falls (ended m s c.args.config ran.new.config ran.result (sym c.stop_of.ensures ∙ c.in-None.is) ran.ensures.ends) c.conclude.ensures r is
