use Rattle.wjs_frames.proofs.Moving.{follows_operand}
use Rattle.wjs_frames.proofs.enters.enter_operand.Goals as goal

pub returns : goal.returns
returns g c =
    follows_operand g.S.WorldStore.meaning c.args.config.now c.args.frame c.args.point c.args.part c.args.operand c.push_at.new.self
    c.requires.runs.running.state c.requires.runs.running.base c.requires.runs.there c.requires.point c.requires.operand
    c.in_ok-push_at.ensures.ok
