use Rattle.wjs_direct_lines.proofs.Querying.{delete_told}
use Rattle.wjs_direct_lines.proofs.operands.deleted.Goals as goal

pub returns-clause-does : goal.returns-clause-does
returns-clause-does g c =
    let s = c.args.stops.now in
    delete_told g.S.WorldStore.meaning c.args.config.now c.delete_at.new.config s.waits s.top c.args.frame.now c.args.reference c.in_ok-gone.gone c.in_ok-gone.ensures.does
