use Rattle.wjs_names.proofs.kept.Kept.make_room.Goals as goal

pub returns-in-Some : goal.returns-in-Some
returns-in-Some g c = rw c.in-Some.is at c.in_ok-kept.ensures
