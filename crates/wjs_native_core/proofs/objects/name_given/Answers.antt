use Rattle.std.proofs.Common.{sym, subst}
use Rattle.wjs_frames.specs.Following.{Later}
use Rattle.wjs_heap_steps.proofs.Later.{later_same}
use Rattle.wjs_native_core.proofs.objects.name_given.Goals as goal
use Rattle.wjs_native_core.proofs.objects.name_given.Goals.{in-Text, in_default+in_ok-id-in_default}

pub returns-clause-later : goal.returns-clause-later
returns-clause-later g c =
    let m = g.S.WorldStore.meaning in
    let old = c.args.config.now in
    elim c.match-value.branch [
      | in-Text w ↦ subst (Later m old) (sym w.config-is) (later_same m old c.requires.base)
      | in_default+in_ok-id-in_default w ↦ subst (Later m old) (sym w.config-is) w.in_ok-id-in_default.ensures.later
    ]
