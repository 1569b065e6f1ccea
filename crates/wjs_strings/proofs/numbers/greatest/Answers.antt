use Rattle.std.proofs.Common.{fold, map, ap, sym}
use Rattle.wjs_by_content.specs.Tables.{value_in}
use Rattle.wjs_meaning.specs.NativesOfTexts.{either, greater_of}
use Rattle.wjs_strings.proofs.Folding.{either_read, fold_step, fold_end}
use Rattle.wjs_strings.proofs.numbers.greatest.Goals as goal

pub loop-value-init : goal.loop-value-init
loop-value-init c = λ t. ap (λ x. fold (either greater_of) x (map (value_in t) c.args.others.now)) (sym (c.number_of-best.ensures t))

pub loop-value-preserved : goal.loop-value-preserved
loop-value-preserved c =
    λ t.
    let v = c.value-item.result in
    fold_step (either greater_of) (value_in t) c.args.others.now c.loop-value.value-index v c.loop-value.best.number c.greater-best.result.number _ c.loop-value-test.true c.value-item.is
    (either_read greater_of c.loop-value.best.number (value_in t v) c.number_of.result.number c.greater-best.result.number (c.number_of.ensures t) (c.greater-best.ensures t))
    (c.loop-value.invariant t)

pub returns : goal.returns
returns c = λ t. fold_end (either greater_of) (value_in t) c.args.others.now c.loop-value.value-index c.loop-value.best.number _ c.loop-value-test.false (c.loop-value.invariant t)
