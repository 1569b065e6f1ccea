use Rattle.std.proofs.Common.{List, is_some, sym, ap, ◌∙◌}
use Rattle.std.specs.Prelude.{option_map}
use Rattle.wjs_model.specs.declared.frame.Activation.{Activation as Frame}
use Rattle.wjs_model.specs.Begun.{is_due}
use Rattle.wjs_model.specs.Frames.{last}
use Rattle.wjs_model.proofs.Tops.{last-get, none-last}
use Rattle.wjs_model.proofs.Stacking.{due_in_lower, no_frames}
use Rattle.wjs_model.proofs.stack.is_due_below.Goals as goal

pub returns-in-Some : goal.returns-in-Some
returns-in-Some c =
    let s = c.args.stack.now in
    let found = c.in-Some.ensures.value ∙ sym (last-get c.deref.result.now) ∙ ap last c.deref.ensures.value in
    c.is_due_at.ensures ∙ due_in_lower s.below.items s.list.items s.top c.in-Some.below.now c.requires.top c.requires.list found

pub returns-in-None : goal.returns-in-None
returns-in-None c =
    let s = c.args.stack.now in
    let none = none-last s.below.items (ap is_some (c.in-None.ensures.value ∙ sym (last-get c.deref.result.now) ∙ ap last c.deref.ensures.value)) in
    sym (ap (λ (l : List Frame). is_due (option_map (λ (f : Frame). f.phase) (last l))) (no_frames s.below.items s.list.items s.top none c.requires.list c.requires.top))
