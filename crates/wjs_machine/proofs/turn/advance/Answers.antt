use Rattle.wjs_io.proofs.Written.{Appends-nil}
use Rattle.wjs_machine.proofs.Running.{advanced, turn_stops}
use Rattle.wjs_machine.proofs.turn.advance.Goals as goal

pub returns-in-Err-clause-err : goal.returns-in-Err-clause-err
returns-in-Err-clause-err g c = Appends-nil (g.O.Sink.seen c.args.out.now).bytes

pub returns-in-Ok-flush-clause-ok : goal.returns-in-Ok-flush-clause-ok
returns-in-Ok-flush-clause-ok g c = advanced g.S.WorldStore.meaning g.met.S.WorldStore.sound _ c.args.config.now c.step.new.config c.flush.new.config c.requires.sound c.in-Ok.ensures c.in-Ok-flush.ensures.ok

pub returns-in-Err-flush-clause-err : goal.returns-in-Err-flush-clause-err
returns-in-Err-flush-clause-err g c = turn_stops g.S.WorldStore.meaning g.met.S.WorldStore.sound _ c.args.config.now c.step.new.config c.requires.sound c.in-Ok.ensures c.in-Err-flush.ensures.err
