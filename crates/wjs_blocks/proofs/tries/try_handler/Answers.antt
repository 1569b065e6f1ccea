use Rattle.std.proofs.Common.{sym, subst}
use Rattle.wjs_base.specs.declared.ids.NodeId.{NodeId}
use Rattle.wjs_model.specs.declared.frame.Activation.{Activation as Frame}
use Rattle.wjs_model.specs.Soundness.{StandsHere, StandsIf}
use Rattle.std.specs.Prelude.{Option}
use Rattle.wjs_blocks.proofs.Standing.{holding_earlier}
use Rattle.wjs_frames.proofs.Handling.{runs_as}
use Rattle.wjs_blocks.proofs.tries.try_handler.Goals as goal

pub enter_at_once-requires-clause-runs : goal.enter_at_once-requires-clause-runs
enter_at_once-requires-clause-runs g c =
    runs_as _ _ _ _ c.requires.runs (holding_earlier g.S.WorldStore.meaning c.args.config.now c.args.frame c.requires.runs.there c.hold.new.frame
    c.args.completion c.requires.completion c.in_ok-hold-in-Some.ensures)

pub enter_at_once-requires-clause-part : goal.enter_at_once-requires-clause-part
enter_at_once-requires-clause-part g c =
    let P : Frame → Type 0 = λ f. StandsHere c.args.config.now f c.in-Some.s in
    let Q : Option NodeId → Type 0 = λ o. StandsIf c.args.config.now c.args.frame o in
    subst P (sym c.in_ok-hold-in-Some.ensures) (subst Q c.in-Some.is c.requires.last)
