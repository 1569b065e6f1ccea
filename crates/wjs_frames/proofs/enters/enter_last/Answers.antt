use Rattle.std.proofs.Common.{[], ◌∷◌, ◌++◌, ◌∙◌}
use Rattle.wjs_model.specs.declared.frame.Phase.TheVariants as phases
use Rattle.wjs_frames.proofs.Moving.{follows_last}
use Rattle.wjs_frames.proofs.enters.enter_last.Goals as goal

pub returns : goal.returns
returns g c =
    let old = c.args.config.now in
    follows_last g.S.WorldStore.meaning old c.args.frame c.args.part c.push_at.new.self c.requires.runs.running.state c.requires.runs.running.base
    c.requires.runs.there c.requires.part
    (c.in_ok-push_at.ensures.ok
    ∙ (λ i. old.frames ++ record (c.begin.ensures i) { phase = phases.Due c.start.result } ∷ [])
    ∙ (λ i. old.frames ++ record c.args.frame {
      node = c.node.ensures i;
      phase = phases.Due (c.start.ensures i);
      held = [];
    } ∷ []))
