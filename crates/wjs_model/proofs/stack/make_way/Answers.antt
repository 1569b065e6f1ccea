use Rattle.std.proofs.Common.{sym, ◌∙◌}
use Rattle.wjs_model.proofs.Stacking.{on_top}
use Rattle.wjs_model.proofs.stack.make_way.Goals as goal

pub returns-in-Some-clause-same : goal.returns-in-Some-clause-same
returns-in-Some-clause-same c =
    let old = c.args.stack.now in
    c.lower.ensures.same
    ∙ sym (on_top old.below.items old.list.items c.take.new.self old.top c.in-Some.top c.take.ensures.after (sym c.take.ensures.value ∙ c.in-Some.is))
