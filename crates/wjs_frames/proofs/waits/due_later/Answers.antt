use Rattle.wjs_frames.proofs.Moving.{follows_due}
use Rattle.wjs_frames.proofs.waits.due_later.Goals as goal

pub returns : goal.returns
returns g c =
    follows_due g.S.WorldStore.meaning c.args.config.now c.args.frame c.args.start c.push_at.new.self c.requires.runs.running.state c.requires.runs.running.base
    c.requires.runs.there c.requires.start c.in_ok-push_at.ensures.ok
