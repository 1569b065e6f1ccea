use Rattle.wjs_overlay.proofs.overlay.OverlayWorldStore.peek.Given as goal

abbrev pub ghosts-peek_uncounted : goal.ghosts-peek_uncounted
ghosts-peek_uncounted a = record { name = a.blank.name; parts = a.blank.parts }
