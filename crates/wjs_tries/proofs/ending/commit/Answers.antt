use Rattle.wjs_tries.proofs.Finished.{committed}
use Rattle.wjs_tries.proofs.Turned.{live}
use Rattle.wjs_tries.proofs.ending.commit.Goals as goal

pub settle-requires : goal.settle-requires
settle-requires c = live c.args.config c.requires.sound.base

pub returns : goal.returns
returns c =
    let r = c.in_ok-settled.settled in
    committed c.args.config c.requires.sound r.0 r.1 c.in_ok-settled.ensures.settles c.in_ok-settled.ensures.works c.requires.done
