use Rattle.std.proofs.Common.{◌∷◌, Some, sym, subst, ap, ◌∙◌}
use Rattle.wjs_model.specs.declared.frame.Activation.{Activation as Frame}
use Rattle.wjs_model.specs.declared.frame.Held.TheVariants as holds
use Rattle.wjs_model.specs.Soundness.{StandsHere}
use Rattle.wjs_step_common.proofs.Following.{follows_as}
use Rattle.wjs_loops.proofs.ForInNames.{target_entered}
use Rattle.wjs_loops.proofs.ForInParts.{target_stands}
use Rattle.wjs_loops.proofs.Visiting.{holding_there}
use Rattle.wjs_frames.proofs.Handling.{runs_as}
use Rattle.wjs_loops.proofs.for_ins.visit.Goals as goal

pub returns-in_ok-hold-in-Target : goal.returns-in_ok-hold-in-Target
returns-in_ok-hold-in-Target g c =
    follows_as g.S.WorldStore.meaning _ _ _ _ c.enter.result (λ grows.
    target_entered g.S.WorldStore.meaning c.enter.new.config.heap.texts c.args.config.now c.args.frame c.hold.new.frame c.args.taker c.in-Target.target
    c.args.s c.args.slot c.in-Target.is c.requires.taker c.in_ok-hold-in-Target.ensures) c.enter.ensures

pub enter-requires-clause-runs : goal.enter-requires-clause-runs
enter-requires-clause-runs g c =
    runs_as _ _ _ _ c.requires.runs (holding_there g.S.WorldStore.meaning c.args.config.now c.args.frame c.hold.new.frame
    (holds.Visit c.args.slot ∷ c.args.frame.held) c.requires.runs.there (c.requires.slot, c.requires.runs.there.held) c.in_ok-hold-in-Target.ensures)

pub enter-requires-clause-point : goal.enter-requires-clause-point
enter-requires-clause-point g c =
    let P : Frame → Type 0 = λ f. StandsHere c.args.config.now f c.args.s in
    subst P (sym c.in_ok-hold-in-Target.ensures) c.requires.body

pub enter-requires-clause-part : goal.enter-requires-clause-part
enter-requires-clause-part g c =
    let P : Frame → Type 0 = λ f. StandsHere c.args.config.now f c.in-Target.target in
    subst P (sym c.in_ok-hold-in-Target.ensures) (target_stands g.S.WorldStore.meaning c.args.config.now c.args.frame c.in-Target.target
    c.requires.runs.there (c.requires.taker ∙ ap Some c.in-Target.is))
