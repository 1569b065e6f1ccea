use Rattle.std.proofs.Common.{List, [], ◌∷◌, ◌++◌, ap, ◌∙◌}
use Rattle.std.proofs.lemmas.Result.{on_ok_weaker, on_err_weaker}
use Rattle.wjs_model.specs.declared.frame.Activation.{Activation as Frame}
use Rattle.wjs_model.specs.Stacks.{lower, topped}
use Rattle.wjs_model.proofs.Stacking.{on_list}
use Rattle.wjs_model.proofs.stack.push_waiting.Goals as goal

pub returns-clause-ok : goal.returns-clause-ok
returns-clause-ok c =
    let mid = c.make_way.new.stack in
    let f = c.args.frame in
    on_ok_weaker c.push_frame.result (λ e.
    on_list mid.below.items mid.list.items c.push_frame.new.list.items mid.top f c.in_ok-make_way.ensures.way e
    ∙ ap (λ (l : List Frame). l ++ f ∷ []) c.make_way.ensures.same) c.push_frame.ensures.ok

pub returns-clause-err : goal.returns-clause-err
returns-clause-err c =
    let mid = c.make_way.new.stack in
    on_err_weaker c.push_frame.result (λ e. ap (λ l. lower mid.below.items ++ topped l mid.top) e ∙ c.make_way.ensures.same) c.push_frame.ensures.err
