use Rattle.std.proofs.Common.{◌∷◌, [], ◌++◌, ap, ◌∙◌}
use Rattle.wjs_model.specs.Begun.{begun_at}
use Rattle.wjs_model.specs.declared.frame.Activation.{Activation as Frame}
use Rattle.wjs_frames.proofs.Moving.{follows_enter}
use Rattle.wjs_frames.proofs.enters.enter_above.Goals as goal

pub returns : goal.returns
returns g c =
    let old = c.args.config.now in
    let mid = old.frames ++ c.waiting_at-waiting.result ∷ [] in
    follows_enter g.S.WorldStore.meaning old c.args.frame c.args.point c.args.part mid c.push_begun.new.self c.requires.runs.running.state
    c.requires.runs.running.base c.requires.runs.there c.requires.point c.requires.part
    (ap (λ (w : Frame). old.frames ++ w ∷ []) c.waiting_at-waiting.ensures)
    (c.in_ok-push_begun.ensures ∙ (λ i. mid ++ begun_at (c.waiting_at-waiting.ensures i) (c.start.ensures i) (c.node.ensures i) ∷ []))
