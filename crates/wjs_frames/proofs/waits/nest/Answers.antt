use Rattle.std.proofs.Common.{◌∷◌, [], ◌++◌, ap, ◌∙◌}
use Rattle.wjs_model.specs.Begun.{begun_at}
use Rattle.wjs_model.specs.declared.frame.Activation.{Activation as Frame}
use Rattle.wjs_model.specs.declared.frame.Phase.TheVariants as phases
use Rattle.wjs_frames.proofs.Moving.{follows_nested}
use Rattle.wjs_frames.proofs.waits.nest.Goals as goal

pub returns : goal.returns
returns g c =
    let old = c.args.config.now in
    let mid = old.frames ++ c.waiting_at-waiting.result ∷ [] in
    follows_nested g.S.WorldStore.meaning old c.args.frame c.args.point c.args.start c.args.node c.args.held mid c.push_ready.new.self
    c.requires.runs.running.state c.requires.runs.running.base c.requires.runs.there c.requires.point c.requires.start c.requires.held c.requires.node
    (ap (λ (w : Frame). old.frames ++ w ∷ []) c.waiting_at-waiting.ensures)
    (c.in_ok-push_ready.ensures ∙ (λ i. mid ++ record (begun_at (c.waiting_at-waiting.ensures i) c.args.start c.args.node)
    { phase = phases.Ready c.args.start; held = c.args.held } ∷ []))
