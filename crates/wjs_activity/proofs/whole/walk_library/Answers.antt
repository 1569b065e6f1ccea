use Rattle.wjs_activity.proofs.whole.walk_library.Goals as goal

pub returns : goal.returns
returns c = (c.in_ok-_taken._taken, c.in_ok-_taken.ensures)
