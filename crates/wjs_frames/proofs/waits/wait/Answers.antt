use Rattle.wjs_frames.proofs.Frames.{put_on}
use Rattle.wjs_frames.proofs.Moving.{nests_waiting, later_waiting}
use Rattle.wjs_frames.proofs.waits.wait.Goals as goal

pub returns-clause-nests : goal.returns-clause-nests
returns-clause-nests g c = nests_waiting g.S.WorldStore.meaning c.args.config.now c.args.frame c.args.point c.push.new.self (put_on _ _ _ _ c.in_ok-push.ensures.ok c.waiting_at.ensures)

pub returns-clause-later : goal.returns-clause-later
returns-clause-later g c =
    later_waiting g.S.WorldStore.meaning c.args.config.now c.args.frame c.args.point c.push.new.self c.requires.runs.running.base c.requires.runs.there c.requires.point
    (put_on _ _ _ _ c.in_ok-push.ensures.ok c.waiting_at.ensures)
