use Rattle.std.proofs.Common.{◌≡◌, length}
use Rattle.wjs_forms.specs.States.{step}
use Rattle.wjs_offend.proofs.Machines.{made}
use Rattle.wjs_offend.proofs.machine.Machine.take.Given as goal

abbrev pub invariant-again : goal.invariant-again
invariant-again l = made l.class l.joined l.next l.self.forms ≡ step l.class l.joined l.fn.self.forms l.fn.self.control

abbrev pub decreases-again : goal.decreases-again
decreases-again l = length l.self.forms
