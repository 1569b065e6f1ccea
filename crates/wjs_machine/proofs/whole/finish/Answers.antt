use Rattle.std.proofs.Common.{sym, subst}
use Rattle.wjs_io.specs.Streams.{over}
use Rattle.wjs_machine.specs.Runs.{RunsTo}
use Rattle.wjs_machine.proofs.Lasting.{finishes, finish_stops}
use Rattle.wjs_machine.proofs.whole.finish.Goals as goal

pub returns-in-Ok-clause-ends : goal.returns-in-Ok-clause-ends
returns-in-Ok-clause-ends g c =
    let m = g.S.WorldStore.meaning in
    let seen = g.O.Sink.seen in
    let s = over seen c.args.out.now c.flush_all.new.out in
    subst (RunsTo m s c.args.config.now c.flush_all.new.config) (sym c.ending.ensures) (finishes m s c.args.config.now c.flush_all.new.config c.requires.ended c.requires.sound c.in-Ok.ensures.ok)

pub returns-in-Err-clause-ends : goal.returns-in-Err-clause-ends
returns-in-Err-clause-ends g c = finish_stops g.S.WorldStore.meaning _ c.args.config.now c.in-Err.ensures.err
