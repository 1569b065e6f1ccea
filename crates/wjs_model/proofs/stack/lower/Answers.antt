use Rattle.std.proofs.Common.{ap, ◌∙◌}
use Rattle.wjs_model.proofs.Stacking.{on_lower, given_back}
use Rattle.wjs_model.proofs.stack.lower.Goals as goal

pub returns-in-Ok-clause-same : goal.returns-in-Ok-clause-same
returns-in-Ok-clause-same c =
    let old = c.args.stack.now in
    on_lower old.below.items c.push_below.new.list.items old.list.items c.replace-list.new.dest.items (record { list = c.replace-list.result; top = c.args.top }) old.top
    c.requires c.in-Ok.ensures.ok (ap (λ v. v.items) c.replace-list.ensures.after ∙ c.new.ensures.items) (ap (λ v. v.items) c.replace-list.ensures.value)

pub returns-in-Err-clause-same : goal.returns-in-Err-clause-same
returns-in-Err-clause-same c =
    let old = c.args.stack.now in
    given_back old.below.items c.push_below.new.list.items old.list.items (record { list = c.replace-list.result; top = c.args.top }) c.in-Err.refused.value old.top
    c.requires c.in-Err.ensures.err c.in-Err.ensures.back (ap (λ v. v.items) c.replace-list.ensures.value)
