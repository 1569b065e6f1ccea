use Rattle.std.proofs.Common.{refl, subst}
use Rattle.wjs_model.specs.Frames.{Pops}
use Rattle.wjs_model.proofs.Stacking.{on_lower, no_frames}
use Rattle.wjs_model.proofs.stack.pop_lower.Goals as goal

pub returns-in-None-clause-pops : goal.returns-in-None-clause-pops
returns-in-None-clause-pops c =
    let old = c.args.stack.now in
    let left = c.pop_below.new.list.items in
    let none = subst (λ r. Pops old.below.items r left) c.in-None.is c.pop_below.ensures in
    (no_frames old.below.items old.list.items old.top none.0 c.requires.list c.requires.top, no_frames left old.list.items old.top none.1 c.requires.list c.requires.top)

pub returns-in-Some-clause-pops : goal.returns-in-Some-clause-pops
returns-in-Some-clause-pops c =
    let old = c.args.stack.now in
    let left = c.pop_below.new.list.items in
    let b = c.in-Some.below in
    let some = subst (λ r. Pops old.below.items r left) c.in-Some.is c.pop_below.ensures in
    on_lower left old.below.items b.list.items old.list.items b old.top c.requires.top some c.requires.list refl
