use Rattle.std.proofs.Common.{is_some, sym, ap, ◌∙◌}
use Rattle.wjs_model.specs.Frames.{last}
use Rattle.wjs_model.proofs.Tops.{last-get, none-last}
use Rattle.wjs_model.proofs.Stacking.{due_in_list}
use Rattle.wjs_model.proofs.stack.is_due_waiting.Goals as goal

pub returns-in-Some : goal.returns-in-Some
returns-in-Some c =
    let s = c.args.stack.now in
    let found = c.in-Some.ensures.value ∙ sym (last-get c.deref.result.now) ∙ ap last c.deref.ensures.value in
    c.is_due_of.ensures ∙ due_in_list s.below.items s.list.items s.top c.in-Some.frame.now c.requires found

pub is_due_below-requires-clause-list : goal.is_due_below-requires-clause-list
is_due_below-requires-clause-list c =
    none-last c.args.stack.now.list.items (ap is_some (c.in-None.ensures.value ∙ sym (last-get c.deref.result.now) ∙ ap last c.deref.ensures.value))
