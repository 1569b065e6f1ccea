use Rattle.std.proofs.Common.{◌+◌, true, Some, refl, sym, subst}
use Rattle.wjs_tries.specs.declared.turns.Came.{Came}
use Rattle.wjs_activity.specs.Noting.{Notes}
use Rattle.wjs_activity.proofs.activities.note.Goals as goal

pub returns-in-Rests : goal.returns-in-Rests
returns-in-Rests c =
    let a = c.args.activity.now in
    let ends = c.args.ends.now in
    subst (λ (k : Came). Notes c.args.number c.args.owner k a ends (record a { running = Some c.in-Rests.rest }) ends c.new.result.items) (sym c.in-Rests.is)
    (refl, refl, c.new.ensures.items)

pub returns-in-Drops : goal.returns-in-Drops
returns-in-Drops c =
    let a = c.args.activity.now in
    let ends = c.args.ends.now in
    subst (λ (k : Came). Notes c.args.number c.args.owner k a ends (record a { dropped = a.dropped + 1 }) ends c.new-in-Drops.result.items)
    (sym c.in-Drops.is) (refl, refl, c.new-in-Drops.ensures.items)

pub returns-in_ok-push-in-Ends : goal.returns-in_ok-push-in-Ends
returns-in_ok-push-in-Ends c =
    let a = c.args.activity.now in
    subst (λ (k : Came). Notes c.args.number c.args.owner k a c.args.ends.now (record a { ended = true }) c.push.new.self c.in-Ends.output.items)
    (sym c.in-Ends.is) (refl, c.in_ok-push-in-Ends.ensures, refl)
