use Rattle.wjs_overlay.proofs.overlay.OverlayWorldStore.sprout.Given as goal

abbrev pub ghosts-sprout_uncounted : goal.ghosts-sprout_uncounted
ghosts-sprout_uncounted a = record { name = a.blank.name; parts = a.blank.parts }
