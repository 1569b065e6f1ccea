use Rattle.std.proofs.Common.{List, [], ◌∷◌, ◌++◌, Some, is_some, refl, sym, ap, ◌∙◌, subst}
use Rattle.std.specs.Prelude.{option_map}
use Rattle.wjs_model.specs.declared.frame.Activation.{Activation as Frame}
use Rattle.wjs_model.specs.declared.frame.Phase.{Phase}
use Rattle.wjs_model.specs.declared.stack.Top.{Top}
use Rattle.wjs_model.specs.Begun.{resumed, with_phase}
use Rattle.wjs_model.specs.Frames.{last, on_last, Pops}
use Rattle.wjs_model.specs.Stacks.{all_of}
use Rattle.wjs_model.proofs.Tops.{last-snoc, on_last-snoc}
use Rattle.wjs_model.proofs.Stacking.{on_top}
use Rattle.wjs_model.proofs.stack.give_top.Goals as goal

pub returns-in-None-clause-given : goal.returns-in-None-clause-given
returns-in-None-clause-given c =
    let none = subst (λ r. Pops (all_of c.args.stack.now) (option_map with_phase r) (all_of c.pop_top.new.stack)) c.in-None.is c.pop_top.ensures.pops in
    none.1 ∙ sym (ap (on_last (λ (f : Frame). record f { phase = resumed f.phase c.args.completion })) none.0)

pub returns-in-None-clause-any : goal.returns-in-None-clause-any
returns-in-None-clause-any c =
    let none = subst (λ r. Pops (all_of c.args.stack.now) (option_map with_phase r) (all_of c.pop_top.new.stack)) c.in-None.is c.pop_top.ensures.pops in
    sym (ap (λ (l : List Frame). is_some (last l)) none.0)

pub returns-in-Some-clause-given : goal.returns-in-Some-clause-given
returns-in-Some-clause-given c =
    let give : Frame → Frame = λ f. record f { phase = resumed f.phase c.args.completion } in
    let mid = c.pop_top.new.stack in
    let f = c.in-Some.frame in
    let top : Top = record { frame = f; phase = c.resumed-phase.result } in
    let some = subst (λ r. Pops (all_of c.args.stack.now) (option_map with_phase r) (all_of mid)) c.in-Some.is c.pop_top.ensures.pops in
    on_top mid.below.items mid.list.items mid.top (Some top) top c.pop_top.ensures.way refl
    ∙ ap (λ (p : Phase). all_of mid ++ record f { phase = p } ∷ []) c.resumed-phase.ensures
    ∙ sym (on_last-snoc give (all_of mid) (with_phase (f, c.in-Some.phase)))
    ∙ sym (ap (on_last give) some)

pub returns-in-Some-clause-any : goal.returns-in-Some-clause-any
returns-in-Some-clause-any c =
    let mid = c.pop_top.new.stack in
    let some = subst (λ r. Pops (all_of c.args.stack.now) (option_map with_phase r) (all_of mid)) c.in-Some.is c.pop_top.ensures.pops in
    sym (ap (λ (l : List Frame). is_some (last l)) some ∙ ap is_some (last-snoc (all_of mid) (with_phase (c.in-Some.frame, c.in-Some.phase))))
