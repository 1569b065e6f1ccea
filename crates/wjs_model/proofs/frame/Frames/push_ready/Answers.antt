use Rattle.wjs_model.proofs.Stacking.{ready-on}
use Rattle.wjs_model.proofs.frame.Frames.push_ready.Goals as goal

pub returns : goal.returns
returns c =
    ready-on c.args.self.now c.begun.new.self c.push.new.self c.push_at.new.self c.args.frame c.in_ok-above.above c.hold_all.new.self c.args.start c.args.node
    c.args.held c.begun.ensures.same c.in_ok-push.ensures.ok c.in_ok-above.ensures.frame c.hold_all.ensures c.in_ok-push_at.ensures.ok
