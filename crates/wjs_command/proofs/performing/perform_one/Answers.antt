use Rattle.wjs_start.proofs.Beginning.{fixed_new}
use Rattle.wjs_command.specs.Due.{IsTold}
use Rattle.wjs_command.proofs.Deliveries.{spent_comes}
use Rattle.wjs_command.proofs.performing.perform_one.Goals as goal

pub perform_in-requires-clause-new : goal.perform_in-requires-clause-new
perform_in-requires-clause-new g c = fixed_new _ c.in_ok-store.ensures

pub returns-in_err-store : goal.returns-in_err-store
returns-in_err-store g c =
    let seen = g.O.Sink.seen c.args.out.now in
    spent_comes (IsTold c.args.options c.args.bytes.now) seen.bytes seen.faults c.from_residual.result c.from_residual.ensures.1
