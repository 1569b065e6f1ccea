use Rattle.wjs_model.proofs.Placed.{placed_stay}
use Rattle.wjs_heap_steps.proofs.Staying.{units_stay}
use Rattle.plays.proofs.playing.play_parts.Goals as goal

pub play-requires-clause-parts : goal.play-requires-clause-parts
play-requires-clause-parts g c = units_stay c.args.texts c.library.new.texts c.in_ok-library.ensures.grows c.args.parts.items c.requires.parts

pub play-requires-clause-part_places : goal.play-requires-clause-part_places
play-requires-clause-part_places g c = placed_stay c.args.texts c.library.new.texts c.in_ok-library.ensures.grows c.args.parts.items c.requires.parts c.requires.places
