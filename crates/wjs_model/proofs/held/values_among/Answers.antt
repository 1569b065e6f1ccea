use Rattle.std.proofs.Common.{[], ◌∷◌, ◌++◌, ◌∙◌, ap, sym}
use Rattle.wjs_model.specs.Contents.{values_held}
use Rattle.wjs_model.proofs.Holdings.{values_take}
use Rattle.wjs_model.proofs.held.values_among.Goals as goal

pub loop-item-preserved : goal.loop-item-preserved
loop-item-preserved c =
    c.in_ok-add_value.ensures ∙ ap (λ l. l ++ values_held (c.item-item.result ∷ [])) c.loop-item.invariant
    ∙ sym (values_take c.args.items.now c.loop-item.item-index c.item-item.result c.loop-item-test.true c.item-item.is)
