use Rattle.std.proofs.Common.{◌++◌, ◌∷◌, [], List, sym, ap, ◌∙◌}
use Rattle.wjs_base.specs.declared.values.Name.{Name}
use Rattle.wjs_base.proofs.Lists.{take_next}
use Rattle.wjs_audit.proofs.logged.copied.Goals as goal

pub loop-place-preserved : goal.loop-place-preserved
loop-place-preserved c =
    c.in_ok-push.ensures.ok
    ∙ ap (λ (ns : List Name). ns ++ c.at.result ∷ []) c.loop-place.invariant
    ∙ sym (take_next c.args.names.now c.loop-place.place c.at.result c.at.ensures)
