use Rattle.std.proofs.Common.{sym, ◌∙◌, arith, get_or, below_more, length}
use Rattle.std.specs.Char.{is_digit}
use Rattle.std.proofs.lemmas.List.Sums.{prefix_len_is}
use Rattle.wjs_num.proofs.Runs.{value_more, no_digit, one_digit}
use Rattle.wjs_num.proofs.numerals.leading_digits.Goals as goal

pub returns-in_default-clause-count : goal.returns-in_default-clause-count
returns-in_default-clause-count c =
    sym (prefix_len_is (λ u. is_digit u c.args.radix) c.args.units.now c.loop-count.count 0 (omega arith) c.loop-count.invariant.1 (λ h. no_digit (get_or c.args.units.now c.loop-count.count 0) c.args.radix c.in_default.ensures))

pub loop-count-preserved : goal.loop-count-preserved
loop-count-preserved c =
    let m = value_more c.args.units.now c.args.radix c.loop-count.count c.loop-count.value c.requires.low c.loop-count-test.true c.loop-count.invariant.0 in
    let d = c.in-Some.ensures {u = tt} in
    let base = c.from.ensures in
    let last = c.from-in-loop-count.ensures ∙ d.1 in
    (c.min-value.ensures ∙ rw (base, last) m, below_more _ _ c.loop-count.invariant.1 (one_digit (get_or c.args.units.now c.loop-count.count 0) c.args.radix d.0))

pub returns-clause-count : goal.returns-clause-count
returns-clause-count c =
    sym (prefix_len_is (λ u. is_digit u c.args.radix) c.args.units.now (length c.args.units.now) 0 (omega arith) (λ k h. c.loop-count.invariant.1 k (omega arith)) (λ h. absurd (omega arith)))
