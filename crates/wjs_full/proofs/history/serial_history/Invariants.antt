use Rattle.std.proofs.Common.{◌≡◌, drop}
use Rattle.wjs_full.specs.History.{histories_from, no_histories}
use Rattle.wjs_full.proofs.history.serial_history.Given as goal

abbrev pub invariant-loop-place : goal.invariant-loop-place
invariant-loop-place l = histories_from l.place (drop l.place l.actions) (drop l.place l.answers) l.histories ≡ histories_from 0 l.fn.actions l.fn.answers no_histories
