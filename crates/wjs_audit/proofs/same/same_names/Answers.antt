use Rattle.std.proofs.Common.{◌++◌, ◌∷◌, [], sym, ◌∙◌}
use Rattle.wjs_base.proofs.Lists.{take_next}
use Rattle.wjs_audit.proofs.same.same_names.Goals as goal

pub loop-place-preserved : goal.loop-place-preserved
loop-place-preserved c =
    let same = c.same_name.ensures.0 c.if-not-same_name.false in
    take_next c.args.a.now c.loop-place.place c.at.result c.at.ensures
    ∙ (λ i. c.loop-place.invariant i ++ same i ∷ [])
    ∙ sym (take_next c.args.b.now c.loop-place.place c.at-in-loop-place.result c.at-in-loop-place.ensures)
