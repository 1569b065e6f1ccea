use Rattle.wjs_machine.proofs.Lasting.{runs}
use Rattle.wjs_machine.proofs.whole.run.Goals as goal

pub returns-in-Ok-clause-ends : goal.returns-in-Ok-clause-ends
returns-in-Ok-clause-ends g c =
    let seen = g.O.Sink.seen in
    let first = c.args.out.now in
    let middle = c.run_turns.new.out in
    let after = c.finish.new.out in
    runs g.S.WorldStore.meaning (seen first).bytes (seen middle).bytes (seen after).bytes (seen first).faults (seen middle).faults (seen after).faults
    c.args.config.now c.run_turns.new.config c.finish.new.config c.finish.result c.run_turns.ensures.never_falls c.in-Ok.ensures.ok c.finish.ensures.ends
