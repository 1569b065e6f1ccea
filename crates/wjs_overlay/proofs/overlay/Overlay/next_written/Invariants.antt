use Rattle.wjs_overlay.proofs.overlay.Overlay.next_written.Given as goal

abbrev pub ghosts-next_written : goal.ghosts-next_written
ghosts-next_written a = record { name = a.blank.name; parts = a.blank.parts }
