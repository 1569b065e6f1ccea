use Rattle.std.proofs.Common.{sym, subst}
use Rattle.wjs_model.specs.declared.frame.Completion.{Completion}
use Rattle.wjs_model.specs.Soundness.{HasCompletion}
use Rattle.wjs_frames.proofs.Held.{earlier_there}
use Rattle.wjs_blocks.proofs.tries.try_finally.Goals as goal

pub finish-requires-clause-completion : goal.finish-requires-clause-completion
finish-requires-clause-completion g c =
    let P : Completion → Type 0 = λ e. HasCompletion c.args.config.now e in
    subst P (sym c.earlier-earlier.ensures) (earlier_there c.args.config.now c.args.frame.held c.requires.runs.there.held)
