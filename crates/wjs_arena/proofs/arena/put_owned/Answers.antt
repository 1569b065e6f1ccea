use Rattle.wjs_arena.proofs.TakenOut.{taken_again}
use Rattle.wjs_arena.proofs.arena.put_owned.Goals as goal

pub returns-in-Err-clause-worlds_err : goal.returns-in-Err-clause-worlds_err
returns-in-Err-clause-worlds_err c = taken_again c.args.worlds.now c.put.new.self c.take.new.self c.args.owner c.args.tree c.requires c.in_ok-put.ensures.ok c.take.ensures.left
