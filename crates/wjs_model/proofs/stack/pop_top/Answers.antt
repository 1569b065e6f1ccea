use Rattle.std.proofs.Common.{List, ◌++◌, sym, ap, ◌∙◌, subst}
use Rattle.std.specs.Prelude.{option_map}
use Rattle.wjs_model.specs.declared.frame.Activation.{Activation as Frame}
use Rattle.wjs_model.specs.Begun.{with_phase}
use Rattle.wjs_model.specs.Frames.{Pops}
use Rattle.wjs_model.specs.Stacks.{all_of, lower, topped}
use Rattle.wjs_model.proofs.Stacking.{on_top}
use Rattle.wjs_model.proofs.stack.pop_top.Goals as goal

pub returns-in-Some-clause-pops : goal.returns-in-Some-clause-pops
returns-in-Some-clause-pops c =
    let old = c.args.stack.now in
    on_top old.below.items old.list.items c.take.new.self old.top c.in-Some.top c.take.ensures.after (sym c.take.ensures.value ∙ c.in-Some.is)

pub returns-in-None-clause-pops : goal.returns-in-None-clause-pops
returns-in-None-clause-pops c =
    let old = c.args.stack.now in
    let same = ap (λ o. lower old.below.items ++ topped old.list.items o) (c.take.ensures.after ∙ sym c.in-None.is ∙ c.take.ensures.value) in
    subst (λ (l : List Frame). Pops l (option_map with_phase c.pop_waiting.result) (all_of c.pop_waiting.new.stack)) same c.pop_waiting.ensures.pops
