use Rattle.std.proofs.Common.{◌+◌, ◌<◌, length, get_or, drop, ℕ, sym, ◌∙◌, subst, arith}
use Rattle.wjs_strings.proofs.Standing.{stands_if, first_here, first_none}
use Rattle.wjs_strings.proofs.Moving.{Scans, scans_moved}
use Rattle.std.proofs.lemmas.List.{length-drop}
use Rattle.wjs_strings.proofs.search.find.Goals as goal

pub returns-then-matched-pattern : goal.returns-then-matched-pattern
returns-then-matched-pattern c =
    let s = c.args.pattern.now in
    let t = c.args.text.now in
    let scan = c.scan.invariant in
    sym (scan.same ∙ first_here s c.scan.start (drop c.scan.start t) (stands_if s t c.scan.start (λ k below. scan.stands k (omega arith)) c.scan-test.true))

pub scan-preserved : goal.scan-preserved
scan-preserved c =
    let s = c.args.pattern.now in
    let t = c.args.text.now in
    let scan = c.scan.invariant in
    let d = get_or c.args.periods.now c.scan.matched 0 in
    let more : c.scan.matched < length s = omega (arith, scan.part) in
    subst (λ (m : ℕ). Scans s t c.args.start (c.scan.start + d) m) (sym c.saturating_sub-matched.ensures)
    (scans_moved s t c.args.start c.scan.start c.scan.matched d scan c.scan-test.true more c.if-text-start.false (c.requires.periods.each c.scan.matched scan.part))

pub returns : goal.returns
returns c =
    let scan = c.scan.invariant in
    sym (scan.same ∙ first_none c.args.pattern.now c.scan.start (drop c.scan.start c.args.text.now) (omega (arith, length-drop c.scan.start c.args.text.now)))
