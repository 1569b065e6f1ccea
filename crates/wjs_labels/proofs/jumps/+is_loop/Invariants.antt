use Rattle.wjs_labels.proofs.jumps.+is_loop.Given as goal

abbrev pub decreases-is_loop : goal.decreases-is_loop
decreases-is_loop l = l.id.0
