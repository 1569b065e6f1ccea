use Rattle.std.proofs.Common.{map as each}
use Rattle.std.specs.Option.{option_map}
use Rattle.wjs_io.specs.Streams.{over}
use Rattle.wjs_model.specs.Units.{unit_in}
use Rattle.wjs_model.proofs.Placed.{placed_stay}
use Rattle.wjs_heap_steps.proofs.Staying.{units_stay}
use Rattle.wjs_command.proofs.Played.{trees_stay, play_comes, play_alone}
use Rattle.wjs_command.specs.Plays.{IsPlayed, RanAlone}
use Rattle.wjs_command.proofs.Deliveries.{spent_comes, spent_alone}
use Rattle.wjs_command.proofs.playing.play_units.Goals as goal

pub play-end-requires-clause-parts : goal.play-end-requires-clause-parts
play-end-requires-clause-parts g c = units_stay c.args.texts c.library.new.texts c.in_ok-library.ensures.grows c.args.parts.items c.requires.parts

pub play-end-requires-clause-part_places : goal.play-end-requires-clause-part_places
play-end-requires-clause-part_places g c = placed_stay c.args.texts c.library.new.texts c.in_ok-library.ensures.grows c.args.parts.items c.requires.parts c.requires.places

pub returns-clause-told : goal.returns-clause-told
returns-clause-told g c =
    let seen = g.O.Sink.seen in
    let t = c.library.new.texts in
    let units = c.args.parts.items in
    let out = over seen c.args.out.now c.play-end.new.out in
    let library = option_map (unit_in t) c.in_ok-library.library in
    let known = each (unit_in c.args.texts) units in
    play_comes library (each (unit_in t) units) known c.args.budget c.args.turn out c.play-end.result c.tell_play.result
    c.in_ok-library.ensures.ok (trees_stay c.args.texts t units c.in_ok-library.ensures.grows c.requires.parts) c.play-end.ensures c.tell_play.ensures

pub returns-clause-alone : goal.returns-clause-alone
returns-clause-alone g c =
    let seen = g.O.Sink.seen in
    let t = c.library.new.texts in
    let units = c.args.parts.items in
    let out = over seen c.args.out.now c.play-end.new.out in
    let library = option_map (unit_in t) c.in_ok-library.library in
    let known = each (unit_in c.args.texts) units in
    play_alone library (each (unit_in t) units) known c.args.budget c.args.turn out c.play-end.result c.tell_play.result
    c.in_ok-library.ensures.ok (trees_stay c.args.texts t units c.in_ok-library.ensures.grows c.requires.parts) c.play-end.ensures c.tell_play.ensures

pub returns-in_err-library-clause-told : goal.returns-in_err-library-clause-told
returns-in_err-library-clause-told g c =
    let seen = g.O.Sink.seen c.args.out.now in
    spent_comes (IsPlayed c.args.budget c.args.turn (each (unit_in c.args.texts) c.args.parts.items)) seen.bytes seen.faults c.from_residual.result c.from_residual.ensures.1

pub returns-in_err-library-clause-alone : goal.returns-in_err-library-clause-alone
returns-in_err-library-clause-alone g c =
    let seen = g.O.Sink.seen c.args.out.now in
    spent_alone (RanAlone c.args.budget (each (unit_in c.args.texts) c.args.parts.items)) seen.bytes seen.faults c.from_residual.result c.from_residual.ensures.1
