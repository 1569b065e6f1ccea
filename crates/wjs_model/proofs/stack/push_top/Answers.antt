use Rattle.std.proofs.Common.{List, [], ◌∷◌, ◌++◌, Some, refl, ap, ◌∙◌}
use Rattle.wjs_model.specs.declared.frame.Activation.{Activation as Frame}
use Rattle.wjs_model.specs.Stacks.{top_of}
use Rattle.wjs_model.proofs.Stacking.{on_top}
use Rattle.wjs_model.proofs.stack.push_top.Goals as goal

pub returns-clause-ok : goal.returns-clause-ok
returns-clause-ok c =
    let mid = c.make_way.new.stack in
    let t = c.args.top in
    on_top mid.below.items mid.list.items mid.top (Some t) t c.in_ok-make_way.ensures.way refl
    ∙ ap (λ (l : List Frame). l ++ top_of t ∷ []) c.make_way.ensures.same
