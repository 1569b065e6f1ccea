use Rattle.wjs_heap_steps.proofs.Later.{later_same}
use Rattle.wjs_quick.proofs.Coming.{later_left}
use Rattle.wjs_effects.proofs.parts.reference_at_once.Goals as goal

-- what follows the end follows the goal
pub returns-clause-does : goal.returns-clause-does
returns-clause-does g c = record { by = λ go later r h. c.in_ok-found.ensures.leaves.by go later r h }

pub returns-clause-later : goal.returns-clause-later
returns-clause-later g c = later_left g.S.WorldStore.meaning c.args.config.now c.target_at.new.steps c.requires.base

pub returns-clause-found : goal.returns-clause-found
returns-clause-found g c =
    let old = c.args.config.now in
    (later_left g.S.WorldStore.meaning old c.target_at.new.steps c.requires.base).references c.in_ok-found.found c.in_ok-found.ensures.found

pub returns-in_err-found-clause-later : goal.returns-in_err-found-clause-later
returns-in_err-found-clause-later g c = later_same g.S.WorldStore.meaning c.args.config.now c.requires.base
