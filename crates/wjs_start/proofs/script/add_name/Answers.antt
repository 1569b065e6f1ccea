use Rattle.std.proofs.Common.{None, refl}
use Rattle.wjs_start.proofs.Declares.{no_name_added}
use Rattle.wjs_start.proofs.script.add_name.Goals as goal

pub returns-in_default-clause-are : goal.returns-in_default-clause-are
returns-in_default-clause-are c = λ t. no_name_added t c.args.script.now c.args.id None c.args.names.now.items refl (c.in_default.ensures.is t)
