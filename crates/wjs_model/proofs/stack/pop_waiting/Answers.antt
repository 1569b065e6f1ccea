use Rattle.std.proofs.Common.{List, [], ◌∷◌, ◌++◌, sym, ap, ◌∙◌, subst}
use Rattle.std.specs.Prelude.{option_map}
use Rattle.wjs_model.specs.declared.frame.Activation.{Activation as Frame}
use Rattle.wjs_model.specs.declared.frame.Phase.{Phase}
use Rattle.wjs_model.specs.Begun.{with_phase}
use Rattle.wjs_model.specs.Frames.{Pops}
use Rattle.wjs_model.specs.Stacks.{all_of, lower, topped}
use Rattle.wjs_model.proofs.Stacking.{on_list}
use Rattle.wjs_model.proofs.stack.pop_waiting.Goals as goal

pub returns-in-Some-clause-pops : goal.returns-in-Some-clause-pops
returns-in-Some-clause-pops c =
    let old = c.args.stack.now in
    let left = c.pop_frame.new.list.items in
    let f = c.in-Some.frame in
    let some = subst (λ r. Pops old.list.items r left) c.in-Some.is c.pop_frame.ensures in
    on_list old.below.items left old.list.items old.top f c.requires some
    ∙ ap (λ (p : Phase). (lower old.below.items ++ topped left old.top) ++ record f { phase = p } ∷ []) (sym c.point-point.ensures)

pub pop_lower-requires-clause-list : goal.pop_lower-requires-clause-list
pop_lower-requires-clause-list c =
    (subst (λ r. Pops c.args.stack.now.list.items r c.pop_frame.new.list.items) c.in-None.is c.pop_frame.ensures).1

pub returns-in-None-clause-pops : goal.returns-in-None-clause-pops
returns-in-None-clause-pops c =
    let old = c.args.stack.now in
    let none = subst (λ r. Pops old.list.items r c.pop_frame.new.list.items) c.in-None.is c.pop_frame.ensures in
    let same = ap (λ l. lower old.below.items ++ topped l old.top) (none.1 ∙ sym none.0) in
    subst (λ (l : List Frame). Pops l (option_map with_phase c.pop_lower.result) (all_of c.pop_lower.new.stack)) same c.pop_lower.ensures.pops
