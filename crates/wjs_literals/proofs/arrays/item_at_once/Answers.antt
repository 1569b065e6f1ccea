use Rattle.wjs_heap_steps.proofs.Later.{later_same}
use Rattle.wjs_effects.proofs.Proceeding.{proceeds_same}
use Rattle.wjs_literals.specs.Parts.{items_left}
use Rattle.wjs_literals.proofs.arrays.item_at_once.Goals as goal

pub returns-in-Last-clause-proceeds : goal.returns-in-Last-clause-proceeds
returns-in-Last-clause-proceeds g c =
    let m = g.S.WorldStore.meaning in
    let old = c.args.config.now in
    proceeds_same m (items_left m old c.args.frame.now c.args.array c.args.from) old

pub returns-in-Last-clause-later : goal.returns-in-Last-clause-later
returns-in-Last-clause-later g c = later_same g.S.WorldStore.meaning c.args.config.now c.requires.base
