use Rattle.wjs_overlay.proofs.overlay.OverlayWorldStore.write_rows.Given as goal

abbrev pub ghosts-write_rows_uncounted : goal.ghosts-write_rows_uncounted
ghosts-write_rows_uncounted a = record { name = a.blank.name; parts = a.blank.parts }
