use Rattle.wjs_overlay.proofs.overlay.OverlayWorldStore.commit.Given as goal

abbrev pub ghosts-commit_uncounted : goal.ghosts-commit_uncounted
ghosts-commit_uncounted a = record { name = a.blank.name; parts = a.blank.parts }
