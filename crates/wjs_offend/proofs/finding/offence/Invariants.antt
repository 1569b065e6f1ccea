use Rattle.std.proofs.Common.{◌≡◌, ◌≤◌, length, take, Some}
use Rattle.wjs_forms.specs.States.{state, start, reach}
use Rattle.wjs_offend.proofs.finding.offence.Given as goal

abbrev pub invariant-loop-place : goal.invariant-loop-place
invariant-loop-place l = (l.place ≤ length l.toks) × (reach (take l.place l.toks) start ≡ Some (state l.machine.control l.machine.forms))
