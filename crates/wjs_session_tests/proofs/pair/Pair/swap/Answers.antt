use Rattle.wjs_store.proofs.Invariant.{same_turned}
use Rattle.wjs_session_tests.proofs.pair.Pair.swap.Goals as goal

pub invariant_of-result : goal.invariant_of-result
invariant_of-result c = record {
  live = c.args.self.live;
  one_rests = c.args.self.two_rests;
  two_rests = c.args.self.one_rests;
  apart = same_turned c.args.self.two.world c.args.self.one.world c.args.self.apart;
}
