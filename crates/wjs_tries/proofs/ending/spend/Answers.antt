use Rattle.wjs_tries.proofs.Finished.{spent}
use Rattle.wjs_tries.proofs.Owning.{worlds_are_own}
use Rattle.wjs_tries.proofs.Turned.{live}
use Rattle.wjs_tries.proofs.ending.spend.Goals as goal

pub left_behind-requires-clause-live : goal.left_behind-requires-clause-live
left_behind-requires-clause-live c = live c.args.config c.requires.sound.base

pub left_behind-requires-clause-worlds : goal.left_behind-requires-clause-worlds
left_behind-requires-clause-worlds c = worlds_are_own c.args.config.heap.arena c.requires.sound.base.worlds_by

pub returns : goal.returns
returns c = spent c.args.config c.requires.sound c.left_behind.result c.new.result c.left_behind.ensures.gives_up c.left_behind.ensures.apart
    c.new.ensures.items c.requires.spent
