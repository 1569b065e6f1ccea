use Rattle.std.proofs.Common.{sym, ◌∙◌}
use Rattle.wjs_step_common.proofs.Following.{follows_as}
use Rattle.wjs_by_content.specs.Tables.{value_in}
use Rattle.wjs_frames.specs.Parts.{env_in}
use Rattle.wjs_operators.specs.Operating.{tells}
use Rattle.wjs_quick.proofs.Operations.{equal_neither}
use Rattle.wjs_operators.proofs.Operators.{equal_right}
use Rattle.wjs_operators.proofs.equality.primitive_equal.Goals as goal

pub returns-then-is_object : goal.returns-then-is_object
returns-then-is_object g c =
    let t = c.equal_object.new.config.heap.texts in
    follows_as g.S.WorldStore.meaning _ _ _ _ _ (λ grows. sym (equal_right (value_in t c.args.left) (value_in t c.args.right) (env_in g.S.WorldStore.meaning c.args.config.now t c.args.frame) (tells c.args.negated) (c.requires.primitive t) (c.is_object.ensures t ∙ c.if-is_object.true))) c.equal_object.ensures

pub returns-else-is_object : goal.returns-else-is_object
returns-else-is_object g c =
    let t = c.equal_primitives.new.config.heap.texts in
    follows_as g.S.WorldStore.meaning _ _ _ _ _ (λ grows. sym (equal_neither (value_in t c.args.left) (value_in t c.args.right) (env_in g.S.WorldStore.meaning c.args.config.now t c.args.frame) (tells c.args.negated) (c.requires.primitive t) (c.is_object.ensures t ∙ c.if-is_object.false))) c.equal_primitives.ensures
