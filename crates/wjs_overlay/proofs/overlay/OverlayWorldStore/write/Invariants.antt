use Rattle.wjs_overlay.proofs.overlay.OverlayWorldStore.write.Given as goal

abbrev pub ghosts-write_uncounted : goal.ghosts-write_uncounted
ghosts-write_uncounted a = record { name = a.blank.name; parts = a.blank.parts }
