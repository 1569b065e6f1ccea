use Rattle.wjs_eval_expr.proofs.points.expr_value.Goals as goal

pub at_base-requires-clause-index : goal.at_base-requires-clause-index
at_base-requires-clause-index g c = rw c.in-IndexBase.is at c.requires.point

pub binary_left-requires-clause-right : goal.binary_left-requires-clause-right
binary_left-requires-clause-right g c = rw c.in-BinaryLeft.is at c.requires.point

pub cond_test-requires-clause-yes : goal.cond_test-requires-clause-yes
cond_test-requires-clause-yes g c = let both = rw c.in-CondTest.is at c.requires.point in both.0

pub cond_test-requires-clause-no : goal.cond_test-requires-clause-no
cond_test-requires-clause-no g c = let both = rw c.in-CondTest.is at c.requires.point in both.1

pub comma_left-requires-clause-right : goal.comma_left-requires-clause-right
comma_left-requires-clause-right g c = rw c.in-CommaLeft.is at c.requires.point
