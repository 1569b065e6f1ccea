use Rattle.wjs_model.proofs.Stacking.{begun-on}
use Rattle.wjs_model.proofs.frame.Frames.push_begun.Goals as goal

pub returns : goal.returns
returns c =
    begun-on c.args.self.now c.begun.new.self c.push.new.self c.push_at.new.self c.args.frame c.in_ok-above.above c.args.start c.args.node
    c.begun.ensures.same c.in_ok-push.ensures.ok c.in_ok-above.ensures.frame c.in_ok-push_at.ensures.ok
