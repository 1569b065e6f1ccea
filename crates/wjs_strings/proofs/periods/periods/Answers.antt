use Rattle.std.proofs.Common.{◌≡◌, ℕ, ◌+◌, ◌<◌, get_or, set, sym, ap, subst, arith, ◌∙◌, rules, ◌≤◌}
use Rattle.wjs_strings.proofs.Fronts.{Fronts, fronts_longer, fronts_none, fronts_moved, period_at}
use Rattle.wjs_strings.proofs.periods.periods.Goals as goal

pub fronts-preserved-then-pattern-period : goal.fronts-preserved-then-pattern-period
fronts-preserved-then-pattern-period c = fronts_longer c.args.pattern.now c.fronts.periods.items c.fronts.period c.fronts.matched c.fronts.invariant c.fronts-test.true c.if-pattern-period.true

pub fronts-preserved-then-matched-eq0 : goal.fronts-preserved-then-matched-eq0
fronts-preserved-then-matched-eq0 c =
    let s = c.args.pattern.now in
    let ps = c.fronts.periods.items in
    let p = c.fronts.period in
    let none = c.if-matched-eq0.true in
    let other : (get_or s p 0 ≡ get_or s 0 0) → ⊥ = λ e. c.if-pattern-period.false (ap (λ x. get_or s x 0) (omega arith) ∙ e ∙ ap (λ x. get_or s x 0) (sym none)) in
    subst (λ (m : ℕ). Fronts s (set ps (p + 1) (p + 1)) (p + 1) m) (sym none)
    (fronts_none s ps p (subst (λ (m : ℕ). Fronts s ps p m) none c.fronts.invariant) (omega (arith, c.fronts-test.true)) other)

pub overflow_add-period-else-matched-eq0 : goal.overflow_add-period-else-matched-eq0
overflow_add-period-else-matched-eq0 c =
    let d = c.index-shift.result.now in
    let least = period_at c.args.pattern.now c.fronts.periods.items c.fronts.period c.fronts.matched d c.fronts.invariant c.fronts-test.true c.index-shift.ensures in
    let some : 0 < c.fronts.matched = omega (arith, c.if-matched-eq0.false) in
    let below : d ≤ c.fronts.matched = least.within some in
    search rules

pub overflow_sub-matched : goal.overflow_sub-matched
overflow_sub-matched c =
    let least = period_at c.args.pattern.now c.fronts.periods.items c.fronts.period c.fronts.matched c.index-shift.result.now c.fronts.invariant c.fronts-test.true c.index-shift.ensures in
    least.within (omega (arith, c.if-matched-eq0.false))

pub fronts-preserved : goal.fronts-preserved
fronts-preserved c =
    let d = c.index-shift.result.now in
    fronts_moved c.args.pattern.now c.fronts.periods.items c.fronts.period c.fronts.matched d c.fronts.invariant (omega (arith, c.if-matched-eq0.false)) c.if-pattern-period.false
    (period_at c.args.pattern.now c.fronts.periods.items c.fronts.period c.fronts.matched d c.fronts.invariant c.fronts-test.true c.index-shift.ensures)
