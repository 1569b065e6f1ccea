use Rattle.wjs_frames.proofs.Shorter.{follows_shorter}
use Rattle.wjs_by_content.specs.Tables.{value_in}
use Rattle.wjs_frames.specs.Parts.{env_in}
use Rattle.wjs_quick.proofs.Operations.{compare_shortens}
use Rattle.wjs_operators.proofs.comparisons.compare.Goals as goal

pub returns-then-are_primitives : goal.returns-then-are_primitives
returns-then-are_primitives g c =
    let t = c.compared.new.config.heap.texts in
    follows_shorter g.S.WorldStore.meaning _ _ _ _ _ (compare_shortens c.args.operator (value_in t c.args.left) (value_in t c.args.right) (env_in g.S.WorldStore.meaning c.args.config.now t c.args.frame) (c.are_primitives.ensures.first c.if-are_primitives.true t) (c.are_primitives.ensures.second c.if-are_primitives.true t)) c.compared.ensures
