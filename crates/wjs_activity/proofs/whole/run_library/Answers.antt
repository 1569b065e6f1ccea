use Rattle.std.proofs.Common.{refl}
use Rattle.std.proofs.lemmas.Result.{IfOk-weaker}
use Rattle.wjs_activity.proofs.whole.run_library.Goals as goal

pub returns-in-Running : goal.returns-in-Running
returns-in-Running c =
    IfOk-weaker c.walk_library.result _ _
    (λ new w. record { none = λ over. absurd (over c.in-Running.is); some = λ on. w })
    c.walk_library.ensures

pub returns-in_default : goal.returns-in_default
returns-in_default c = record { none = λ over. refl; some = λ on. absurd (c.in_default.not-Running on) }
