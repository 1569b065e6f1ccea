use Rattle.std.proofs.Common.{◌+◌, ◌*◌}
use Rattle.wjs_quick.proofs.evaluate.+evaluation.Given as goal

abbrev pub decreases-value_of : goal.decreases-value_of
decreases-value_of g l = l.height * 8 + 1

abbrev pub decreases-value_with : goal.decreases-value_with
decreases-value_with g l = l.height * 8

abbrev pub decreases-form_with : goal.decreases-form_with
decreases-form_with g l = l.height * 8 + 7

abbrev pub decreases-binary : goal.decreases-binary
decreases-binary g l = l.height * 8 + 6

abbrev pub decreases-after_left : goal.decreases-after_left
decreases-after_left g l = l.height * 8 + 5

abbrev pub decreases-and_right : goal.decreases-and_right
decreases-and_right g l = l.height * 8 + 4

abbrev pub decreases-or_right : goal.decreases-or_right
decreases-or_right g l = l.height * 8 + 4

abbrev pub decreases-both : goal.decreases-both
decreases-both g l = l.height * 8 + 4

abbrev pub decreases-prefix : goal.decreases-prefix
decreases-prefix g l = l.height * 8 + 6

abbrev pub decreases-choice : goal.decreases-choice
decreases-choice g l = l.height * 8 + 6

abbrev pub decreases-comma : goal.decreases-comma
decreases-comma g l = l.height * 8 + 6

abbrev pub decreases-dot : goal.decreases-dot
decreases-dot g l = l.height * 8 + 6

abbrev pub decreases-at : goal.decreases-at
decreases-at g l = l.height * 8 + 6
