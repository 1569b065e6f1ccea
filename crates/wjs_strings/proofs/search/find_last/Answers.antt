use Rattle.std.proofs.Common.{◌+◌, ◌≤◌, length, get_or, sym, arith, rules}
use Rattle.wjs_strings.proofs.Moving.{seeks_past, seeks_on, seeks_falls, seeks_missing}
use Rattle.wjs_strings.proofs.search.find_last.Goals as goal

pub returns-then-place-limit : goal.returns-then-place-limit
returns-then-place-limit c = sym (seeks_past c.args.pattern.now c.args.text.now c.args.limit c.places.best c.places.start c.places.matched c.in-Some.place c.places.invariant c.in-Some.ensures c.if-place-limit.true)

pub overflow_add-start : goal.overflow_add-start
overflow_add-start c =
    let d = get_or c.args.periods.now (length c.args.pattern.now) 0 in
    let on = seeks_on c.args.pattern.now c.args.text.now c.args.limit c.places.best c.places.start c.places.matched c.in-Some.place d c.requires.full c.places.invariant c.in-Some.ensures c.if-place-limit.false (c.requires.periods.each (length c.args.pattern.now) (omega arith)) in
    let below : c.in-Some.place + d ≤ length c.args.text.now = on.inside in
    search rules

pub places-smaller : goal.places-smaller
places-smaller c =
    let d = get_or c.args.periods.now (length c.args.pattern.now) 0 in
    seeks_falls c.args.pattern.now c.args.text.now c.args.limit c.places.best c.places.start c.places.matched c.in-Some.place d c.requires.full c.places.invariant c.in-Some.ensures c.if-place-limit.false (c.requires.periods.each (length c.args.pattern.now) (omega arith))

pub places-preserved : goal.places-preserved
places-preserved c =
    let d = get_or c.args.periods.now (length c.args.pattern.now) 0 in
    seeks_on c.args.pattern.now c.args.text.now c.args.limit c.places.best c.places.start c.places.matched c.in-Some.place d c.requires.full c.places.invariant c.in-Some.ensures c.if-place-limit.false (c.requires.periods.each (length c.args.pattern.now) (omega arith))

pub returns : goal.returns
returns c = sym (seeks_missing c.args.pattern.now c.args.text.now c.args.limit c.places.best c.places.start c.places.matched c.places.invariant c.in_default.ensures)
