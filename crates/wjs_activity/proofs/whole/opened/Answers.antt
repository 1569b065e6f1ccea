use Rattle.wjs_activity.proofs.Opened.{overlay_meaning, opened_so}
use Rattle.wjs_activity.proofs.whole.opened.Goals as goal
use Rattle.std.proofs.lemmas.Result.{IfOk-weaker}
use Rattle.wjs_start.proofs.Beginning.{fixed_new}

pub start_parts-requires-clause-new : goal.start_parts-requires-clause-new
start_parts-requires-clause-new c = fixed_new (overlay_meaning c.in_ok-store.store) c.in_ok-store.ensures

pub run_library-requires : goal.run_library-requires
run_library-requires c = c.in_ok-config.ensures.sound

pub returns : goal.returns
returns c =
    IfOk-weaker c.run_library.result _ _
    (λ new ran. opened_so c.args.texts c.args.library c.args.parts.items c.args.budget
    (overlay_meaning c.in_ok-store.store) c.in_ok-store.ensures c.in_ok-config.config c.in_ok-config.ensures.starts c.in_ok-config.ensures.sound
    c.requires.library c.requires.parts new ran)
    c.run_library.ensures
