use Rattle.wjs_arena.proofs.Made.{noted_forgotten}
use Rattle.wjs_arena.proofs.arena.put.Goals as goal

pub returns-in-Err-clause-worlds_err : goal.returns-in-Err-clause-worlds_err
returns-in-Err-clause-worlds_err c = noted_forgotten c.args.worlds.now c.note.new.worlds c.forget.new.worlds c.args.world c.args.id c.requires.world c.in_ok-note.ensures.ok c.forget.ensures
