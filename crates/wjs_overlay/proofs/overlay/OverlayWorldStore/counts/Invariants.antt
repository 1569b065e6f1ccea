use Rattle.wjs_overlay.proofs.overlay.OverlayWorldStore.counts.Given as goal

abbrev pub ghosts-count_marks : goal.ghosts-count_marks
ghosts-count_marks a = record { name = a.blank.name; parts = a.blank.parts }
