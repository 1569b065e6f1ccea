use Rattle.std.proofs.Common.{◌++◌, ap, ◌∙◌}
use Rattle.wjs_model.specs.Stacks.{all_of, lower, top_of, topped}
use Rattle.wjs_model.proofs.Stacking.{behind, due_on}
use Rattle.wjs_model.proofs.stack.is_due_top.Goals as goal

pub returns-in-Some : goal.returns-in-Some
returns-in-Some c =
    let s = c.args.stack.now in
    let bs = s.below.items in
    let fs = s.list.items in
    c.is_due_at.ensures
    ∙ due_on (all_of s) (lower bs ++ fs) (top_of c.in-Some.top) (ap (λ o. lower bs ++ topped fs o) c.in-Some.is ∙ behind (lower bs) fs (top_of c.in-Some.top))
