use Rattle.wjs_direct.proofs.Switching.{default_is}
use Rattle.wjs_direct.proofs.switches.default_at.Goals as goal

pub returns : goal.returns
returns g c =
    default_is c.args.config.now c.args.frame.now c.args.node c.clauses_at.result.now c.default_of-clause.result c.in_ok-at.at c.clauses_at.ensures c.default_of-clause.ensures c.in_ok-at.ensures
