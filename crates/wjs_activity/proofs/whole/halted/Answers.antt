use Rattle.std.proofs.Common.{subst}
use Rattle.std.specs.Prelude.{Err}
use Rattle.wjs_model.specs.declared.halt.Halt.{Halt}
use Rattle.wjs_activity.specs.Plays.{PlaysOut}
use Rattle.wjs_activity.proofs.whole.halted.Goals as goal

pub returns-in-SinkFailed : goal.returns-in-SinkFailed
returns-in-SinkFailed c = λ library parts budget schedule turn s h. subst
    (λ (halt : Halt). PlaysOut library parts budget schedule turn s (Err halt)) c.in-SinkFailed.is h

pub returns-in-OutOfMemory : goal.returns-in-OutOfMemory
returns-in-OutOfMemory c = λ library parts budget schedule turn s h. subst
    (λ (halt : Halt). PlaysOut library parts budget schedule turn s (Err halt)) c.in-OutOfMemory.is h
