use Rattle.std.proofs.Common.{subst, sym, ◌≤◌, ◌∙◌}
use Rattle.std.specs.Prelude.{map as each}
use Rattle.wjs_activity.specs.Plays.{turn_in}
use Rattle.wjs_activity.proofs.Closing.{settled_new, going_begun, begins_as, none_begun_so, spent_so}
use Rattle.wjs_activity.proofs.whole.played.Goals as goal

pub returns-then-is_spent : goal.returns-then-is_spent
returns-then-is_spent g c = λ library parts first count is.
    spent_so library parts c.args.rules.budget (each turn_in c.args.schedule.now) c.args.turn c.args.config (g.O.Sink.seen c.args.out.now).bytes
    (g.O.Sink.seen c.args.out.now).faults is (c.is_spent.ensures.yes c.if-is_spent.true)

pub begun-requires : goal.begun-requires
begun-requires g c = c.requires.begin.is.works

pub finished-requires-clause-going : goal.finished-requires-clause-going
finished-requires-clause-going g c = going_begun c.args.rules c.args.count c.args.config c.requires.begin c.in-Ok.play c.in-Ok.ensures

pub finished-requires-clause-settled : goal.finished-requires-clause-settled
finished-requires-clause-settled g c = settled_new c.in-Ok.play.activities.items c.in-Ok.ensures.activities

pub returns-in-Ok : goal.returns-in-Ok
returns-in-Ok g c = λ library parts first count is.
    let few = c.requires.begin.few in
    let same = sym c.requires.begin.count_is ∙ count in
    c.finished.ensures library parts first
    (begins_as library parts c.args.rules.budget
    (each turn_in c.args.schedule.now) c.args.turn c.args.count c.args.config is c.in-Ok.play c.in-Ok.ensures count (subst (λ n. n ≤ 1000) same few)
    (c.is_spent.ensures.no c.if-is_spent.false))

pub returns-in-Err : goal.returns-in-Err
returns-in-Err g c = λ library parts first count is. none_begun_so library parts c.args.rules.budget (each turn_in c.args.schedule.now) c.args.turn
    (g.O.Sink.seen c.args.out.now).bytes (g.O.Sink.seen c.args.out.now).faults
