use Rattle.wjs_overlay.proofs.overlay.Overlay.commit_check.Given as goal

abbrev pub ghosts-check_in : goal.ghosts-check_in
ghosts-check_in a = record { name = a.blank.name; parts = a.blank.parts }
