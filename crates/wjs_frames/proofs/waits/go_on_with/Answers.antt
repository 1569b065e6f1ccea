use Rattle.wjs_frames.proofs.Moving.{follows_going}
use Rattle.wjs_frames.proofs.waits.go_on_with.Goals as goal

pub returns : goal.returns
returns g c =
    follows_going g.S.WorldStore.meaning c.args.config.now c.args.frame c.args.point c.args.completion c.push_at.new.self c.requires.runs.running.state
    c.requires.runs.running.base c.requires.runs.there c.requires.point c.requires.completion c.in_ok-push_at.ensures.ok
