use Rattle.wjs_command.proofs.Beginnings.{known_later, places_later, begins_if}
use Rattle.wjs_command.proofs.running.begin.Goals as goal

pub start-requires-clause-script : goal.start-requires-clause-script
start-requires-clause-script g c = known_later c.args.texts c.library.new.texts c.args.script c.in_ok-library.ensures.grows c.requires.script

pub start-requires-clause-script_places : goal.start-requires-clause-script_places
start-requires-clause-script_places g c = places_later c.args.texts c.library.new.texts c.args.script c.in_ok-library.ensures.grows c.requires.script c.requires.places

pub returns : goal.returns
returns g c =
    begins_if g.S.WorldStore.meaning g.met.S.WorldStore.sound c.args.texts c.library.new.texts c.args.store c.in_ok-library.library c.args.script c.args.steps c.start.result
    c.in_ok-library.ensures.grows c.in_ok-library.ensures.ok c.in_ok-library.ensures.known c.requires.script c.start.ensures.starts c.start.ensures.sound
