use Rattle.std.proofs.Common.{sym, subst}
use Rattle.wjs_by_content.specs.Tables.{value_in}
use Rattle.wjs_by_content.specs.Values.{Whole, Number}
use Rattle.wjs_meaning.specs.Deeds.{give}
use Rattle.wjs_frames.specs.Shortening.{Shortens}
use Rattle.wjs_quick.specs.Operating.{after_prefix}
use Rattle.wjs_quick.proofs.Operations.{plus_ends, minus_shortens, complement_shortens}
use Rattle.wjs_quick.proofs.operators.on_number.Goals as goal

pub returns-in-Plus : goal.returns-in-Plus
returns-in-Plus c = λ t env. rw (c.in-Plus.is, c.in-Number.is) (plus_ends c.in-Number.number.number env)

pub returns-in-Minus : goal.returns-in-Minus
returns-in-Minus c = λ t env. subst (λ (z : Whole). Shortens (after_prefix c.args.operator env (value_in t c.args.value)) (give (Number z))) (sym c.neg.ensures) (rw (c.in-Minus.is, c.in-Number.is) (minus_shortens c.in-Number.number.number env))

pub returns-in-BitNot : goal.returns-in-BitNot
returns-in-BitNot c = λ t env. subst (λ (z : Whole). Shortens (after_prefix c.args.operator env (value_in t c.args.value)) (give (Number z))) (sym c.bit_not.ensures) (rw (c.in-BitNot.is, c.in-Number.is) (complement_shortens c.in-Number.number.number env))
