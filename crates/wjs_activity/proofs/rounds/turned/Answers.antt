use Rattle.std.proofs.Common.{refl, arith}
use Rattle.wjs_activity.proofs.Comes.{turned_lem, few_places, part_there, few_units, rests_there, entry_there, entry_taken, begins_apart, few_noted, mid_long}
use Rattle.wjs_activity.proofs.Comes.{left_some, owns_there, others_there}
use Rattle.wjs_activity.proofs.rounds.turned.Goals as goal

pub overflow_cast-part : goal.overflow_cast-part
overflow_cast-part c = let few = few_places c.args.rules c.args.play c.args.place c.requires.place c.requires.going in omega (arith, few)

pub go_on_or_open-requires-clause-live : goal.go_on_or_open-requires-clause-live
go_on_or_open-requires-clause-live c = c.requires.going.is.works

pub go_on_or_open-requires-clause-common : goal.go_on_or_open-requires-clause-common
go_on_or_open-requires-clause-common c = c.requires.going.is.common

pub go_on_or_open-requires-clause-part : goal.go_on_or_open-requires-clause-part
go_on_or_open-requires-clause-part c = part_there c.args.rules c.args.play c.args.place c.requires.place c.requires.going

pub go_on_or_open-requires-clause-few : goal.go_on_or_open-requires-clause-few
go_on_or_open-requires-clause-few c = few_units c.args.rules c.args.play c.args.place c.requires.place c.requires.going

pub go_on_or_open-requires-clause-rests : goal.go_on_or_open-requires-clause-rests
go_on_or_open-requires-clause-rests c =
    rests_there c.args.rules c.args.play c.args.place c.requires.place c.requires.going c.take_running-running.new.activities.items
    c.take_running-running.result c.take_running-running.ensures

pub go_on_or_open-requires-clause-place : goal.go_on_or_open-requires-clause-place
go_on_or_open-requires-clause-place c = entry_there c.args.rules c.args.play c.args.place c.requires.place c.requires.going

pub go_on_or_open-requires-clause-owns : goal.go_on_or_open-requires-clause-owns
go_on_or_open-requires-clause-owns c =
    owns_there c.args.rules c.args.play c.args.place c.requires.place c.requires.going c.take_running-running.new.activities.items
    c.take_running-running.result c.take_running-running.ensures

pub take_turn-requires-clause-others : goal.take_turn-requires-clause-others
take_turn-requires-clause-others c =
    let k = c.in_ok-config.ensures in
    others_there c.args.rules c.args.play c.args.place c.requires.place c.requires.going c.take_running-running.result c.in_ok-config.config k.begun k.goes_on

pub go_on_or_open-requires-clause-apart : goal.go_on_or_open-requires-clause-apart
go_on_or_open-requires-clause-apart c = λ none few u listed. begins_apart c.args.rules c.args.play c.args.place c.requires.place c.requires.going few u listed

pub take_turn-requires-clause-place : goal.take_turn-requires-clause-place
take_turn-requires-clause-place c =
    let k = c.in_ok-config.ensures in
    entry_taken c.args.rules c.args.play c.args.place c.requires.place c.requires.going c.take_running-running.result c.in_ok-config.config k.begun k.list

pub note_at-requires-clause-place : goal.note_at-requires-clause-place
note_at-requires-clause-place c =
    mid_long c.args.rules c.args.play c.args.place c.requires.place c.requires.going c.take_running-running.new.activities.items c.take_running-running.result
    c.take_running-running.ensures

pub note_at-requires-clause-number : goal.note_at-requires-clause-number
note_at-requires-clause-number c = let few = few_places c.args.rules c.args.play c.args.place c.requires.place c.requires.going in omega (arith, few)

pub note_at-requires-clause-few : goal.note_at-requires-clause-few
note_at-requires-clause-few c = λ a at.
    let few = few_noted c.args.rules c.args.play c.args.place c.requires.place c.requires.going c.take_running-running.new.activities.items
    c.take_running-running.result c.take_running-running.ensures a at c.args.steps c.requires.there in
    omega (arith, few)

pub returns : goal.returns
returns c =
    let t = c.in_ok-taken.taken in
    let e = c.in_ok-taken.ensures in
    let k = c.in_ok-config.ensures in
    turned_lem c.args.rules c.args.play c.args.place c.args.steps c.requires.there
    (left_some c.args.rules c.args.play c.args.place c.requires.place c.requires.going) c.requires.some c.take_running-running.new.activities.items
    c.take_running-running.result c.take_running-running.ensures c.in_ok-config.config k.begun k.goes_on k.sound k.few k.list t.0 t.1 e.turned e.exact
    e.whole e.less e.certain e.apart
    c.note_at.new.activities.items c.note_at.new.ends c.in_ok-output.output.items c.in_ok-output.ensures
    (record { common = t.0; activities = c.note_at.new.activities; ends = c.note_at.new.ends; drawn = c.latest.result }) refl c.latest.ensures refl refl
