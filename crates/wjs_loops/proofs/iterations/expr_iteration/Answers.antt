use Rattle.std.proofs.Common.{sym, ap}
use Rattle.wjs_meaning.specs.Trees.{Node}
use Rattle.wjs_meaning.specs.Deeds.{Sub}
use Rattle.wjs_meaning.specs.Expressions.{expr_of}
use Rattle.wjs_frames.specs.Parts.{env_in, then_at}
use Rattle.wjs_frames.proofs.Places.{node_same}
use Rattle.wjs_step_common.proofs.Following.{follows_as}
use Rattle.wjs_loops.proofs.iterations.expr_iteration.Goals as goal

pub returns : goal.returns
returns g c =
    let t = c.nest.new.config.heap.texts in
    let old = c.args.config.now in
    let meaning = g.S.WorldStore.meaning in
    let env = env_in meaning old t c.args.frame in
    follows_as meaning _ _ _ _ c.nest.result (λ grows. ap (λ (n : Node). Sub (expr_of c.args.e.0 n env) (then_at meaning old c.args.frame c.args.point t env)) (sym (node_same t old.units.items c.args.frame.tree c.args.e))) c.nest.ensures
