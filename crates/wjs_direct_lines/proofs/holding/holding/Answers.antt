use Rattle.wjs_direct_lines.proofs.Holdings.{holding_more}
use Rattle.wjs_direct_lines.proofs.holding.holding.Goals as goal

pub loop-value-preserved : goal.loop-value-preserved
loop-value-preserved g c =
    record {
      same = c.loop-value.invariant.same;
      held = holding_more c.args.frame.now c.args.node c.args.callee c.args.this c.args.values.now c.loop-value.value-index c.value-item.result c.loop-value.inner c.hold-in-loop-value.new.self
          c.loop-value-test.true c.value-item.is c.loop-value.invariant.held c.in_ok-hold-2.ensures.ok;
    }
