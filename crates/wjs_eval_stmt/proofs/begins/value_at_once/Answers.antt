use Rattle.wjs_heap_steps.proofs.Later.{later_same}
use Rattle.wjs_eval_stmt.proofs.begins.value_at_once.Goals as goal

pub returns-in-ExprValue-clause-later : goal.returns-in-ExprValue-clause-later
returns-in-ExprValue-clause-later g c = later_same g.S.WorldStore.meaning c.args.config.now c.requires.base
