use Rattle.std.proofs.Common.{◌≡◌, ◌∙◌, suc, ◌-◌, arith, sym}
use Rattle.wjs_scope.proofs.Opening.{outwards_begin, outwards_found, outwards_on, outwards_end, level_here, lower}
use Rattle.wjs_scope.proofs.levels.resolve.Goals as goal

pub loop-at-init : goal.loop-at-init
loop-at-init c = outwards_begin c.args.levels.now c.args.from c.args.name c.requires

pub returns-then-contains : goal.returns-then-contains
returns-then-contains c =
    let some = c.loop-at-test.true in
    let next : c.loop-at.at ≡ suc (c.loop-at.at - 1) = omega arith in
    let level = c.index-levels-at.result in
    let here = level_here c.args.levels.now c.loop-at.at level some c.loop-at.invariant.within c.index-levels-at.is in
    outwards_found c.args.levels.now c.args.from c.args.name c.loop-at.at c.loop-at.hops (c.loop-at.at - 1) level next here (sym c.contains.ensures ∙ c.if-contains.true) c.loop-at.invariant

pub loop-at-smaller : goal.loop-at-smaller
loop-at-smaller c =
    let some = c.loop-at-test.true in
    let next : c.loop-at.at ≡ suc (c.loop-at.at - 1) = omega arith in
    let level = c.index-levels-at.result in
    let here = level_here c.args.levels.now c.loop-at.at level some c.loop-at.invariant.within c.index-levels-at.is in
    lower c.args.levels.now c.args.from c.args.name c.loop-at.at c.loop-at.hops (c.loop-at.at - 1) level next here c.loop-at.invariant

pub loop-at-preserved : goal.loop-at-preserved
loop-at-preserved c =
    let some = c.loop-at-test.true in
    let next : c.loop-at.at ≡ suc (c.loop-at.at - 1) = omega arith in
    let level = c.index-levels-at.result in
    let here = level_here c.args.levels.now c.loop-at.at level some c.loop-at.invariant.within c.index-levels-at.is in
    outwards_on c.args.levels.now c.args.from c.args.name c.loop-at.at c.loop-at.hops (c.loop-at.at - 1) level next here (sym c.contains.ensures ∙ c.if-contains.false) c.loop-at.invariant

pub returns : goal.returns
returns c = let none = c.loop-at-test.false in outwards_end c.args.levels.now c.args.from c.args.name c.loop-at.at c.loop-at.hops (omega arith) c.loop-at.invariant
