use Rattle.std.proofs.Common.{fold, map, ap, sym}
use Rattle.wjs_by_content.specs.Tables.{value_in}
use Rattle.wjs_meaning.specs.NativesOfTexts.{either, lesser_of}
use Rattle.wjs_strings.proofs.Folding.{either_read, fold_step, fold_end}
use Rattle.wjs_strings.proofs.numbers.least.Goals as goal

pub loop-value-init : goal.loop-value-init
loop-value-init c = λ t. ap (λ x. fold (either lesser_of) x (map (value_in t) c.args.others.now)) (sym (c.number_of-best.ensures t))

pub loop-value-preserved : goal.loop-value-preserved
loop-value-preserved c =
    λ t.
    let v = c.value-item.result in
    fold_step (either lesser_of) (value_in t) c.args.others.now c.loop-value.value-index v c.loop-value.best.number c.lesser-best.result.number _ c.loop-value-test.true c.value-item.is
    (either_read lesser_of c.loop-value.best.number (value_in t v) c.number_of.result.number c.lesser-best.result.number (c.number_of.ensures t) (c.lesser-best.ensures t))
    (c.loop-value.invariant t)

pub returns : goal.returns
returns c = λ t. fold_end (either lesser_of) (value_in t) c.args.others.now c.loop-value.value-index c.loop-value.best.number _ c.loop-value-test.false (c.loop-value.invariant t)
