use Rattle.wjs_overlay.proofs.overlay.OverlayWorldStore.list.Given as goal

abbrev pub ghosts-list_uncounted : goal.ghosts-list_uncounted
ghosts-list_uncounted a = record { name = a.blank.name; parts = a.blank.parts }
