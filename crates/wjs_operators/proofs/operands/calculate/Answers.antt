use Rattle.std.proofs.Common.{refl}
use Rattle.wjs_step_common.proofs.Following.{follows_by}
use Rattle.wjs_by_content.specs.Tables.{value_in}
use Rattle.wjs_frames.specs.Parts.{env_in}
use Rattle.wjs_quick.proofs.Operations.{arithmetic_shortens}
use Rattle.wjs_operators.proofs.operands.calculate.Goals as goal

pub returns-then-are_primitives : goal.returns-then-are_primitives
returns-then-are_primitives g c =
    let t = c.calculated.new.config.heap.texts in
    follows_by g.S.WorldStore.meaning _ _ _ _ _ _ (arithmetic_shortens c.args.operator (value_in t c.args.left) (value_in t c.args.right) (env_in g.S.WorldStore.meaning c.args.config.now t c.args.frame) (c.are_primitives.ensures.first c.if-are_primitives.true t) (c.are_primitives.ensures.second c.if-are_primitives.true t)) c.calculated.ensures (λ grows. rw (c.to_number-x.ensures t grows, c.to_number-y.ensures t grows) refl)
