use Rattle.wjs_scope.proofs.Tabling.{all_rows}
use Rattle.wjs_scope.proofs.body_rows.declared_bodies.Goals as goal

pub returns : goal.returns
returns c = all_rows c.args.program.now.nodes c.args.arguments c.in_ok-rows.rows.items c.in_ok-none.none c.in_ok-none.ensures c.in_ok-rows.ensures
