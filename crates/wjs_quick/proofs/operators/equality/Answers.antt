use Rattle.std.proofs.Common.{ap, ◌∙◌}
use Rattle.wjs_by_content.specs.Tables.{value_in}
use Rattle.wjs_quick.proofs.Operations.{equal_both, equal_neither}
use Rattle.wjs_quick.proofs.operators.equality.Goals as goal

pub returns-then-are_primitives : goal.returns-then-are_primitives
returns-then-are_primitives g c = λ t more env go.
    equal_neither (value_in t c.args.left) (value_in t c.args.right) env go (c.are_primitives.ensures.first c.if-are_primitives.true t) (c.are_primitives.ensures.second c.if-are_primitives.true t)
    ∙ ap go (c.loosely_equal.ensures t more)

pub returns-then-are_objects : goal.returns-then-are_objects
returns-then-are_objects g c = λ t more env go.
    equal_both (value_in t c.args.left) (value_in t c.args.right) env go (c.are_objects.ensures.first c.if-are_objects.true t) (c.are_objects.ensures.second c.if-are_objects.true t)
    ∙ ap go (c.strictly_equal.ensures t more)

pub returns-then-are_apart : goal.returns-then-are_apart
returns-then-are_apart g c = λ t more env go. c.are_apart.ensures c.if-are_apart.true t env go
