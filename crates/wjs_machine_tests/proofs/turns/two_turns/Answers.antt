use Rattle.wjs_machine_tests.proofs.Later.{turns_leave}
use Rattle.wjs_machine_tests.proofs.turns.two_turns.Goals as goal

pub returns-in-Running : goal.returns-in-Running
returns-in-Running g c = turns_leave g.S.WorldStore.meaning c.more_texts_change_nothing.ensures c.args.config.now c.turn.new.config c.turn-in-Running.new.config c.requires.sound c.in_ok-turn.ensures c.turn-in-Running.result c.turn-in-Running.ensures
