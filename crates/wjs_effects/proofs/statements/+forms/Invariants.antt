use Rattle.std.proofs.Common.{◌+◌, ◌*◌}
use Rattle.wjs_effects.proofs.statements.+forms.Given as goal

abbrev pub decreases-effect_at : goal.decreases-effect_at
decreases-effect_at g l = l.height * 8

abbrev pub decreases-form : goal.decreases-form
decreases-form g l = l.height * 8 + 7

abbrev pub decreases-block : goal.decreases-block
decreases-block g l = l.height * 8 + 6

abbrev pub decreases-condition : goal.decreases-condition
decreases-condition g l = l.height * 8 + 6

abbrev pub decreases-chosen : goal.decreases-chosen
decreases-chosen g l = l.height * 8 + 5

abbrev pub decreases-otherwise : goal.decreases-otherwise
decreases-otherwise g l = l.height * 8 + 4
