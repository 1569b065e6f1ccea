use Rattle.std.proofs.Common.{◌≡◌, ◌+◌, drop, get_or, sym, ◌∙◌, arith}
use Rattle.std.proofs.lemmas.List.{at_drop_all, at_drop_more}
use Rattle.wjs_texts.specs.Hash.{hash_more, hash_behind}
use Rattle.wjs_texts.proofs.hash.hash_behind.Goals as goal

pub loop-unit-preserved : goal.loop-unit-preserved
loop-unit-preserved c =
    let i = c.loop-unit.unit-index in
    let units = c.args.units.now in
    let factor = c.args.factor in
    let hash = c.loop-unit.hash in
    let step : hash_behind factor hash (drop i units) ≡ hash_behind factor (hash_more factor hash (get_or units i 0)) (drop (i + 1) units) = at_drop_more (hash_behind factor hash) units i 0 c.loop-unit-test.true in
    sym step ∙ c.loop-unit.invariant

pub returns : goal.returns
returns c =
    let all = at_drop_all (hash_behind c.args.factor c.loop-unit.hash) c.args.units.now c.loop-unit.unit-index (omega (arith, c.loop-unit-test.false)) in
    sym all ∙ c.loop-unit.invariant
