use Rattle.std.proofs.Common.{◌≡◌, ◌+◌, ◌-◌, ◌<◌, length, get_or, refl, subst, arith}
use Rattle.std.proofs.lemmas.List.Elements.{All-get_or}
use Rattle.wjs_order.proofs.Falling.{Filled, filled_none, filled_more, filled_all}
use Rattle.wjs_order.proofs.numbers.fill.Goals as goal

pub loop-left-init : goal.loop-left-init
loop-left-init c = filled_none c.args.order.now c.args.numbers.now

pub loop-left-preserved : goal.loop-left-preserved
loop-left-preserved c =
    let some = c.loop-left-test.true in
    let within = c.loop-left.invariant.within in
    let order = c.args.order.now in
    let at = c.loop-left.left - 1 in
    let lt : at < length order = omega arith in
    let low = All-get_or (λ k. k < length c.args.numbers.now) order at 0 lt c.requires.below in
    let same = c.loop-left.auto.numbers in
    let next : c.loop-left.left ≡ at + 1 = omega arith in
    filled_more order c.loop-left.numbers _ at (get_or order at 0) (length order - c.loop-left.left) lt refl (omega arith) refl (omega arith) c.requires.once (subst (Filled order c.loop-left.numbers) next c.loop-left.invariant)

pub returns : goal.returns
returns c = let done = c.loop-left-test.false in filled_all c.args.order.now c.loop-left.numbers c.loop-left.left (omega arith) c.loop-left.invariant
