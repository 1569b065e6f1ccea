use Rattle.std.proofs.Common.{List, sym, subst}
use Rattle.wjs_model.specs.declared.frame.Held.{Held}
use Rattle.wjs_model.specs.Soundness.{HasItems}
use Rattle.wjs_frames.proofs.Handling.{runs_held}
use Rattle.wjs_native_core.proofs.applies.apply_to.Goals as goal

pub call-requires-clause-runs : goal.call-requires-clause-runs
call-requires-clause-runs g c =
    let old = c.args.config.now in
    rw c.set_held.ensures (runs_held _ old c.args.frame c.nothing_held.result c.requires.runs (subst (λ (l : List Held). HasItems old l) (sym c.nothing_held.ensures) tt))
